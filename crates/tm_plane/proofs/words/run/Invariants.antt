use Rattle.std.proofs.Common.{◌<◌, ◌≤◌, ℕ, ◌↔◌}
use Rattle.tm_plane.specs.Plane.{Bit}
use Rattle.tm_plane.proofs.words.run.Given as goal

abbrev pub invariant-loop-k : goal.invariant-loop-k
invariant-loop-k l = (j : ℕ) → Bit l.word j ↔ ((l.low ≤ j) × (j < l.k))
