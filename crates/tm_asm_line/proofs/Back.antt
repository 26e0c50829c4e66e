-- What is printed is read back, piece by piece.
use Rattle.std.proofs.Common.{◌≡◌, ◌≢◌, ◌≤◌, ◌<◌, ℕ, zero, suc, ◌+◌, ◌%◌, ◌^◌, Bool, true, false, not, ◌&&◌, eqb}
use Rattle.std.proofs.Common.{nat_le, List, [], ◌∷◌, ◌++◌, length, ℤ, pos, negsuc, Option, Some, None, refl, ap, ◌∙◌}
use Rattle.std.proofs.Common.{inl, inr, arith}
use Rattle.std.specs.Prelude.{slice_index, option_map}
use Rattle.std.specs.Fmt.{digits, decimal, signed_decimal}
use Rattle.std.proofs.lemmas.Fmt.{decimal_by_steps}
use Rattle.std.proofs.lemmas.Bool.Decides.{leb_tells, nat_tests}
use Rattle.std.proofs.lemmas.Int.{ints}
use Rattle.std.proofs.lemmas.Bool.{leb-true}
use lib.Signed.{mag}
use Rattle.tm_base.specs.Numbers.{number_of}
use Rattle.tm_base.proofs.PrintLemmas.{decimal_reads_back}
use Rattle.tm_asm_line.specs.Shapes.{set_text}
use Rattle.tm_asm_line.specs.Reading.{is_blank, is_delimiter, register_of, signed_of, signed_by, value_of, negative}
use Rattle.tm_asm_line.specs.Reading.{set_of}
use Rattle.std.proofs.lemmas.Bool.{and_parts}
use Rattle.tm_asm_line.proofs.Cut.{none, none-append}

-- ---- a test on all numbers below one

abbrev below : (ℕ → Bool) → ℕ → Bool
below test zero = true
below test (suc n) = test n && below test n

below_all : (test : ℕ → Bool) (n : ℕ) → below test n ≡ true → (k : ℕ) → k < n → test k ≡ true
below_all test zero h k lt = absurd (omega arith)
below_all test (suc n) h k lt =
    let p = and_parts (test n) (below test n) h in
    elim (leb_tells (suc k) n) [
      | inl t ↦ below_all test n p.1 k (omega arith)
      | inr t ↦ let e : k ≡ n = omega arith in rw e p.0
    ]

abbrev is_some_of : ℕ → Option ℕ → Bool
is_some_of n None = false
is_some_of n (Some x) = eqb x n

some_of : (n : ℕ) (o : Option ℕ) → is_some_of n o ≡ true → o ≡ Some n
some_of n None h = absurd (cc)
some_of n (Some x) h = let e : x ≡ n = grind (arith, nat_tests) in ap Some e

-- ---- the texts of operands

-- bytes that are cut out as one operand
pub record IsOne (bs : List ℕ) : Type 0 where
  pub free : none is_delimiter bs ≡ true
  pub some : length bs ≢ 0

abbrev one_test : List ℕ → Bool
one_test bs = none is_delimiter bs && not (eqb (length bs) 0)

one_from : (bs : List ℕ) → one_test bs ≡ true → IsOne bs
one_from bs h =
    let p = and_parts (none is_delimiter bs) (not (eqb (length bs) 0)) h in
    record { free = p.0; some = grind (arith, nat_tests, p.1) }

register_test : ℕ → Bool
register_test n = is_some_of n (register_of (120 ∷ decimal n)) && one_test (120 ∷ decimal n)

registers_tested : below register_test 32 ≡ true
unfolding register_test register_of is_delimiter is_blank digits
registers_tested = refl

pub register_back : (n : ℕ) → n < 32 → (register_of (120 ∷ decimal n) ≡ Some n) × IsOne (120 ∷ decimal n)
unfolding register_test
register_back n h =
    let p = and_parts (is_some_of n (register_of (120 ∷ decimal n))) (one_test (120 ∷ decimal n))
    (below_all register_test 32 registers_tested n h) in
    (some_of n (register_of (120 ∷ decimal n)) p.0, one_from (120 ∷ decimal n) p.1)

set_test : ℕ → Bool
set_test n = is_some_of n (set_of (set_text n)) && one_test (set_text n)

sets_tested : below set_test 16 ≡ true
unfolding set_test set_of set_text is_delimiter is_blank
sets_tested = refl

pub set_back : (n : ℕ) → n < 16 → (set_of (set_text n) ≡ Some n) × IsOne (set_text n)
unfolding set_test
set_back n h =
    let p = and_parts (is_some_of n (set_of (set_text n))) (one_test (set_text n))
    (below_all set_test 16 sets_tested n h) in
    (some_of n (set_of (set_text n)) p.0, one_from (set_text n) p.1)

lengths_tested : below (λ n. nat_le (length (set_text n)) 4) 16 ≡ true
unfolding set_text
lengths_tested = refl

pub set_short : (n : ℕ) → n < 16 → length (set_text n) ≤ 4
set_short n h = leb-true (length (set_text n)) 4 (below_all (λ n. nat_le (length (set_text n)) 4) 16 lengths_tested n h)

-- the first byte is a digit
abbrev FirstDigit : List ℕ → Type 0
FirstDigit [] = ⊥
FirstDigit (d ∷ ds) = (48 ≤ d) × (d ≤ 57)

abbrev IsPlain : ℕ → List ℕ → Type 0
IsPlain n ds = (none is_delimiter ds ≡ true) × FirstDigit ds

digit_none : (d : ℕ) → 48 ≤ d → d ≤ 57 → none is_delimiter (d ∷ []) ≡ true
unfolding is_delimiter is_blank
digit_none d low high = grind (arith, nat_tests)

first-append : (xs ys : List ℕ) → FirstDigit xs → FirstDigit (xs ++ ys)
first-append [] ys h = absurd h
first-append (x ∷ xs) ys h = h

decimal_plain : (n : ℕ) → n < 2 ^ 64 → IsPlain n (decimal n)
decimal_plain n h =
    decimal_by_steps IsPlain
    (λ m low. (digit_none (48 + m) (omega arith) (omega arith), (omega arith, omega arith)))
    (λ m ds some g. (
      none-append is_delimiter ds ((48 + m % 10) ∷ []) g.0
          (digit_none (48 + m % 10) (omega arith) (omega arith)),
      first-append ds ((48 + m % 10) ∷ []) g.1,
    ))
    n h

first-some : (ds : List ℕ) → FirstDigit ds → length ds ≢ 0
first-some [] h = absurd h
first-some (d ∷ ds) h = λ e. omega arith

-- without a sign
unsigned_by : (ds : List ℕ) → FirstDigit ds → signed_by (slice_index ds 0) ds ≡ option_map pos (value_of (number_of ds))
unsigned_by [] h = absurd h
unsigned_by (d ∷ ds) h =
    let a : eqb d 45 ≡ false = grind (arith, nat_tests, h) in
    let b : eqb d 43 ≡ false = grind (arith, nat_tests, h) in
    rw (a, b)

negative_suc : (n : ℕ) → negative (suc n) ≡ negsuc n
negative_suc n = omega (arith, ints)

pub signed_back : (z : ℤ) → mag z < 2 ^ 20 → (signed_of (signed_decimal z) ≡ Some z) × IsOne (signed_decimal z)
unfolding signed_of is_delimiter is_blank
signed_back (pos n) h =
    let g = decimal_plain n (omega arith) in (
      unsigned_by (decimal n) g.1 ∙ rw (decimal_reads_back n (omega arith)),
      record { free = g.0; some = first-some (decimal n) g.1 },
    )
signed_back (negsuc n) h =
    let g = decimal_plain (suc n) (omega arith) in (
      rw (decimal_reads_back (suc n) (omega arith)) (ap Some (negative_suc n)),
      record { free = g.0; some = λ e. omega arith },
    )
