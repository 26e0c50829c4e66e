use Rattle.std.proofs.Common.{◌≡◌, ◌<◌, ◌&&◌, ℕ, false}
use Rattle.tm_rules_slot.specs.Teams.{in_team}
use Rattle.tm_rules_first.specs.Rules.{has_body}
use Rattle.tm_rules_first.proofs.bodies.first_twice.Given as goal

abbrev pub invariant-loop-h : goal.invariant-loop-h
invariant-loop-h l = (k : ℕ) → k < l.h → (in_team l.topo l.whom k && has_body l.topo l.before k) ≡ false
