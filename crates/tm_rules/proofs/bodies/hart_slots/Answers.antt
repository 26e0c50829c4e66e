use Rattle.std.proofs.Common.{◌≡◌, ◌∙◌, Some, sym, ap}
use Rattle.std.specs.Prelude.{find}
use Rattle.tm_rules_slot.specs.Teams.{in_team}
use Rattle.tm_rules_first.proofs.FindLemmas.{found-at, none-more}
use Rattle.tm_rules.specs.Admitting.{hart_slots}
use Rattle.tm_rules.proofs.bodies.hart_slots.Goals as goal

pub returns-then-is_in_team : goal.returns-then-is_in_team
unfolding hart_slots
returns-then-is_in_team c =
    let found = found-at (λ b. in_team c.args.topo.now b.whom c.args.h) c.args.bodies.now c.loop-body.body-index
    c.body-item.result c.loop-body-test.true c.loop-body.invariant in
    let first : find (λ b. in_team c.args.topo.now b.whom c.args.h) c.args.bodies.now ≡ Some c.body-item.result =
    found (rw (← c.body-item.is) (sym c.if-is_in_team.ensures)) ∙ ap Some (sym c.body-item.is) in
    rw first (rw c.as_slice.ensures at c.written_out.ensures)

pub loop-body-preserved : goal.loop-body-preserved
loop-body-preserved c =
    let more = none-more (λ b. in_team c.args.topo.now b.whom c.args.h) c.args.bodies.now c.loop-body.body-index
    c.body-item.result c.loop-body-test.true c.loop-body.invariant in
    more (rw (← c.body-item.is) (sym c.if-is_in_team.ensures))
