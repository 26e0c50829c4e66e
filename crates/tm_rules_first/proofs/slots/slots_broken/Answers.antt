use Rattle.std.proofs.Common.{◌∙◌, sym, arith}
use Rattle.tm_rules_first.specs.Rules.{slot_checks}
use Rattle.tm_rules_first.proofs.CountLemmas.{total-none, total-more, total-within, count-small}
use Rattle.tm_rules_first.proofs.TurnLemmas.{rest-none, rest-all}
use Rattle.tm_rules_first.proofs.StatementLemmas.{slots-more, slots-broken}
use Rattle.tm_rules_first.proofs.slots.slots_broken.Goals as goal

pub loop-slot-init : goal.loop-slot-init
loop-slot-init c =
    (sym total-none, rest-none (slot_checks c.args.topo.now c.args.p.now.shape c.args.whom c.args.len) c.args.slots.now)

pub slot_fault-requires-clause-within : goal.slot_fault-requires-clause-within
slot_fault-requires-clause-within c =
    let ds = c.args.slots.now in
    let within = total-within ds c.loop-slot.slot-index c.slot-item.result c.loop-slot-test.true c.slot-item.is in
    omega (arith, within, count-small ds)

pub returns-in-Some : goal.returns-in-Some
returns-in-Some c =
    sym (c.loop-slot.invariant.1 ∙ slots-broken c.args.topo.now c.args.p.now.shape c.args.whom c.args.len c.loop-slot.at
    c.args.slots.now c.loop-slot.slot-index c.slot-item.result c.in-Some.fault
    c.loop-slot-test.true c.slot-item.is c.loop-slot.invariant.0 c.in-Some.ensures)

pub overflow_add-at : goal.overflow_add-at
overflow_add-at c =
    let ds = c.args.slots.now in
    let within = total-within ds c.loop-slot.slot-index c.slot-item.result c.loop-slot-test.true c.slot-item.is in
    omega (arith, within, count-small ds)

pub loop-slot-preserved : goal.loop-slot-preserved
loop-slot-preserved c = (
  omega (
    arith,
    total-more c.args.slots.now c.loop-slot.slot-index c.slot-item.result c.loop-slot-test.true
        c.slot-item.is,
  ),
  c.loop-slot.invariant.1 ∙ slots-more c.args.topo.now c.args.p.now.shape c.args.whom c.args.len c.loop-slot.at
      c.args.slots.now c.loop-slot.slot-index c.slot-item.result
      c.loop-slot-test.true c.slot-item.is c.loop-slot.invariant.0 c.in_default.ensures,
)

pub returns : goal.returns
returns c = sym (c.loop-slot.invariant.1 ∙ rest-all (slot_checks c.args.topo.now c.args.p.now.shape c.args.whom
    c.args.len) c.args.slots.now c.loop-slot.slot-index c.loop-slot-test.false)
