use Rattle.std.proofs.Common.{Some, None, sym, ◌∙◌}
use Rattle.tm_place.proofs.SpotLemmas.{sound-of, standing-read}
use Rattle.tm_rules_slot.proofs.Ruling.{access-none, access-undeclared, access-misplaced, access-owned}
use Rattle.tm_rules_slot.proofs.access.access_fault.Goals as goal

pub returns-then-not-is_access : goal.returns-then-not-is_access
returns-then-not-is_access c =
    access-none c.args.p.now.line c.args.p.now.part c.args.p.now.shape c.args.topo.now c.args.whom c.args.i
    (sym c.is_access.ensures ∙ c.if-not-is_access.true)

pub is_placed-requires-clause-few : goal.is_placed-requires-clause-few
is_placed-requires-clause-few c =
    ((sound-of c.args.p.now).windows _ c.in-Some.window (standing-read c.args.p.now.shape _ ∙
    c.in-Some.is)).window.shaped.few

pub returns-in-None : goal.returns-in-None
returns-in-None c =
    rw c.from-w.ensures (access-undeclared c.args.p.now.line c.args.p.now.part c.args.p.now.shape c.args.topo.now
    c.args.whom c.args.i (sym c.is_access.ensures ∙ c.if-not-is_access.false)
    (rw c.from-w.ensures at c.in-None.is))

pub returns-then-not-is_placed : goal.returns-then-not-is_placed
returns-then-not-is_placed c =
    let test = rw (c.from-w.ensures, c.width_of.ensures, c.slot_addr-addr.ensures) at c.is_placed.ensures in
    rw c.slot_addr-addr.ensures (access-misplaced c.args.p.now.line c.args.p.now.part c.args.p.now.shape c.args.topo.now
    c.args.whom c.args.i c.in-Some.window
    (sym c.is_access.ensures ∙ c.if-not-is_access.false) (rw c.from-w.ensures at c.in-Some.is)
    (sym test ∙ c.if-not-is_placed.true))

pub returns-in-None-stranger : goal.returns-in-None-stranger
returns-in-None-stranger c =
    let test = rw (c.from-w.ensures, c.width_of.ensures, c.slot_addr-addr.ensures) at c.is_placed.ensures in
    access-owned c.args.p.now.line c.args.p.now.part c.args.p.now.shape c.args.topo.now c.args.whom c.args.i
    c.in-Some.window None
    (sym c.is_access.ensures ∙ c.if-not-is_access.false) (rw c.from-w.ensures at c.in-Some.is)
    (sym test ∙ c.if-not-is_placed.false)
    (sym c.in-None-stranger.is ∙ rw c.requires.harts at c.stranger.ensures)

pub returns-in-Some-stranger : goal.returns-in-Some-stranger
returns-in-Some-stranger c =
    let test = rw (c.from-w.ensures, c.width_of.ensures, c.slot_addr-addr.ensures) at c.is_placed.ensures in
    rw c.slot_addr-addr.ensures (access-owned c.args.p.now.line c.args.p.now.part c.args.p.now.shape c.args.topo.now
    c.args.whom c.args.i c.in-Some.window (Some c.in-Some-stranger.hart)
    (sym c.is_access.ensures ∙ c.if-not-is_access.false) (rw c.from-w.ensures at c.in-Some.is)
    (sym test ∙ c.if-not-is_placed.false)
    (sym c.in-Some-stranger.is ∙ rw c.requires.harts at c.stranger.ensures))
