use Rattle.std.proofs.Common.{◌≤◌, ◌<◌, ◌↔◌, ℕ}
use Rattle.tm_plane.specs.Plane.{Bit}
use Rattle.tm_race.proofs.registers.register_word.Given as goal

abbrev pub invariant-loop-r : goal.invariant-loop-r
invariant-loop-r l = (j : ℕ) → Bit l.word j ↔ ((1 ≤ j) × (j < l.r) × (Bit l.held j → ⊥))
