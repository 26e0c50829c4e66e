use Rattle.std.proofs.Common.{sym, ◌∙◌}
use Rattle.tm_rules_slot.proofs.Ruling.{emit-refused, emit-register, emit-access, emit-target}
use Rattle.tm_rules_slot.proofs.emits.instr_fault.Goals as goal

pub returns-then-is_refused : goal.returns-then-is_refused
returns-then-is_refused c =
    emit-refused c.args.p.now.line c.args.p.now.part c.args.p.now.shape c.args.topo.now c.args.whom c.args.slot
    c.args.slots c.args.i
    (sym c.is_refused.ensures ∙ c.if-is_refused.true)

pub returns-in-Some : goal.returns-in-Some
returns-in-Some c =
    emit-register c.args.p.now.line c.args.p.now.part c.args.p.now.shape c.args.topo.now c.args.whom c.args.slot
    c.args.slots c.args.i c.in-Some.fault
    (sym c.is_refused.ensures ∙ c.if-is_refused.false) (sym c.register_fault.ensures ∙ c.in-Some.is)

pub returns-in-Some-access_fault : goal.returns-in-Some-access_fault
returns-in-Some-access_fault c =
    emit-access c.args.p.now.line c.args.p.now.part c.args.p.now.shape c.args.topo.now c.args.whom c.args.slot
    c.args.slots c.args.i c.in-Some-access_fault.fault
    (sym c.is_refused.ensures ∙ c.if-is_refused.false) (sym c.register_fault.ensures ∙ c.in_default.is)
    (sym c.access_fault.ensures ∙ c.in-Some-access_fault.is)

pub returns : goal.returns
returns c =
    c.target_fault.ensures
    ∙ emit-target c.args.p.now.line c.args.p.now.part c.args.p.now.shape c.args.topo.now c.args.whom c.args.slot
    c.args.slots c.args.i
    (sym c.is_refused.ensures ∙ c.if-is_refused.false) (sym c.register_fault.ensures ∙ c.in_default.is)
    (sym c.access_fault.ensures ∙ c.in_default-access_fault.is)
