use Rattle.std.proofs.Common.{◌≡◌, ℕ, ◌<◌, false, ◌&&◌, not}
use Rattle.tm_rules_slot.specs.Teams.{in_team}
use Rattle.tm_rules_slot.specs.Slots.{may_access}
use Rattle.tm_rules_slot.proofs.access.stranger.Given as goal

abbrev pub invariant-loop-h : goal.invariant-loop-h
invariant-loop-h l = (k : ℕ) → k < l.h → in_team l.topo l.whom k
    && not (may_access l.p.harts l.p.line l.p.part l.p.shape l.i k) ≡ false
