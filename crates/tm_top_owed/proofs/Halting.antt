-- One hart more at its halt mark.
use Rattle.std.proofs.Common.{◌≡◌, ℕ, suc, ◌+◌, [], ◌∷◌, Bool, true, false, refl, sym, ap, ◌∙◌, arith, eq-eqb}
use Rattle.std.proofs.Common.{eqb-true, inl, inr}
use Rattle.std.specs.Prelude.{cond, ◌==◌, IsTrue, ◌↔◌}
use Rattle.std.specs.List.{count_by}
use Rattle.std.proofs.lemmas.Bool.{cases_Bool, true≢false}
use Rattle.std.proofs.lemmas.List.Sums.{sum_by-append, sum_by-cons}
use Rattle.tm_base.specs.Lists.{count_from}
use Rattle.tm_plan_cases.proofs.Counted.{counted}

one : (test : ℕ → Bool) (n : ℕ) → count_by test (n ∷ []) ≡ cond (test n) 1 0
one test n = sum_by-cons (λ (x : ℕ). cond (test x) 1 0) n [] ∙ omega arith

-- one number more
count-up : (test : ℕ → Bool) (n : ℕ)
    → count_by test (count_from 0 (n + 1)) ≡ count_by test (count_from 0 n) + cond (test n) 1 0
count-up test n =
    let next : n + 1 ≡ suc n = omega arith in
    ap (λ (k : ℕ). count_by test (count_from 0 k)) next
    ∙ (ap (count_by test) (counted 0 n n (omega arith))
    ∙ (sum_by-append (λ (x : ℕ). cond (test x) 1 0) (count_from 0 n) (n ∷ [])
    ∙ ap (λ (k : ℕ). count_by test (count_from 0 n) + k) (one test n)))

-- one more that passes
pub counts : (test : ℕ → Bool) (n k : ℕ) → k ≡ count_by test (count_from 0 n) → test n ≡ true
    → k + 1 ≡ count_by test (count_from 0 (n + 1))
counts test n k is yes_ =
    ap (λ (m : ℕ). m + 1) is
    ∙ sym (count-up test n ∙ ap (λ (b : Bool). count_by test (count_from 0 n) + cond b 1 0) yes_)

-- one more that doesn't
pub skips : (test : ℕ → Bool) (n k : ℕ) → k ≡ count_by test (count_from 0 n) → test n ≡ false
    → k ≡ count_by test (count_from 0 (n + 1))
skips test n k is no_ =
    let same : count_by test (count_from 0 n) + 0 ≡ count_by test (count_from 0 n) = omega arith in
    is ∙ sym (count-up test n ∙ (ap (λ (b : Bool). count_by test (count_from 0 n) + cond b 1 0) no_ ∙ same))

-- a test of two numbers
pub marks : (x y : ℕ) (b : Bool) → (IsTrue b ↔ (x ≡ y)) → (x == y) ≡ b
marks x y true (to, from) = eq-eqb x y (to refl)
marks x y false (to, from) = elim (cases_Bool (x == y)) [
  | inl e ↦ absurd (true≢false (sym (from (eqb-true x y e))))
  | inr e ↦ e
]
