use Rattle.std.proofs.Common.{◌≡◌, ◌&&◌, false, refl, sym, below_more, arith}
use Rattle.tm_rules_slot.specs.Teams.{in_team}
use Rattle.tm_rules_slot.proofs.Finding.{team-some, team-none}
use Rattle.tm_rules_first.specs.Rules.{has_body}
use Rattle.tm_rules_first.proofs.bodies.first_twice.Goals as goal
use Rattle.tm_rules_first.proofs.bodies.first_twice.Goals.{else-is_in_team-via-then-is_in_team+else-has_body}
use Rattle.tm_rules_first.proofs.bodies.first_twice.Goals.{else-is_in_team-via-else-is_in_team}

pub returns-then-has_body : goal.returns-then-has_body
returns-then-has_body c =
    team-some c.args.topo.now c.args.whom (has_body c.args.topo.now c.args.before.now) c.loop-h.h c.loop-h-test.true
    c.loop-h.invariant (sym c.if-is_in_team.ensures) (sym c.if-has_body.ensures)

pub loop-h-preserved : goal.loop-h-preserved
loop-h-preserved c =
    let here : (in_team c.args.topo.now c.args.whom c.loop-h.h && has_body c.args.topo.now c.args.before.now c.loop-h.h)
    ≡ false =
    elim c.else-is_in_team.branch [
      | else-is_in_team-via-then-is_in_team+else-has_body w ↦ rw (← w.if-is_in_team.ensures, ← w.if-has_body.ensures)
          refl
      | else-is_in_team-via-else-is_in_team w ↦ rw (← w.if-is_in_team.ensures) refl
    ] in
    below_more _ _ c.loop-h.invariant here

pub returns : goal.returns
returns c =
    team-none c.args.topo.now c.args.whom (has_body c.args.topo.now c.args.before.now)
    (λ k low. c.loop-h.invariant k (omega arith))
