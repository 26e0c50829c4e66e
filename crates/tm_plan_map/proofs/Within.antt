-- Bytes of an area.
use Rattle.std.proofs.Common.{◌≡◌, ◌⊎◌, ◌+◌, ◌<◌, ◌≤◌, ℕ, true, false, arith}
use Rattle.std.proofs.lemmas.Bool.Decides.{nat_tests}
use Rattle.tm_plan_map.specs.Map.{within}

pub within-parts : (a n b : ℕ) → within a n b ≡ true → (a ≤ b) × (b < a + n)
within-parts a n b h = grind (arith, nat_tests)

pub within-true : (a n b : ℕ) → a ≤ b → b < a + n → within a n b ≡ true
within-true a n b p q = grind (arith, nat_tests)

pub within-false : (a n b : ℕ) → (b < a) ⊎ (a + n ≤ b) → within a n b ≡ false
within-false a n b h = grind (arith, nat_tests)
