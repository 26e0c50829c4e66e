use Rattle.std.proofs.Common.{◌≡◌, ℕ, [], ◌∷◌, Some, None}
use Rattle.tm_asm.specs.Sheet.{AllPlaced}
use Rattle.tm_cases_lines.proofs.labels.forward.Given as goal

abbrev pub invariant-loop : goal.invariant-loop
invariant-loop l = record {
  places : l.code.places ≡ None ∷ [];
  label : l.label.number ≡ 0;
  placed : (p : ℕ) → AllPlaced (Some p ∷ []) l.code.items;
}
