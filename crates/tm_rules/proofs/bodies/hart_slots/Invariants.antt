use Rattle.std.proofs.Common.{◌≡◌, None, take}
use Rattle.std.specs.Prelude.{find}
use Rattle.tm_rules_slot.specs.Teams.{in_team}
use Rattle.tm_rules.proofs.bodies.hart_slots.Given as goal

abbrev pub invariant-loop-body : goal.invariant-loop-body
invariant-loop-body l = find (λ b. in_team l.topo b.whom l.h) (take l.body-index l.bodies) ≡ None
