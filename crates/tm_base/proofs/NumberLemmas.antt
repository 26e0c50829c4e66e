use Rattle.std.proofs.Common.{◌≡◌, ◌≢◌, ◌≤◌, ◌<◌, ℕ, zero, suc, ◌+◌, ◌*◌, ◌^◌, Bool, true, false, not, nat_lt, List}
use Rattle.std.proofs.Common.{[], ◌∷◌, ◌++◌, length, take, drop, get_or, Option, Some, None, SomeIff, refl, sym, ap}
use Rattle.std.proofs.Common.{◌∙◌, arith, length-append}
use Rattle.std.specs.Prelude.{position, unwrap_or}
use Rattle.std.specs.List.{prefix_len}
use Rattle.std.specs.Char.{digit_value, is_digit}
use Rattle.std.proofs.lemmas.Nat.{pow-add}
use Rattle.std.proofs.lemmas.List.{take_more, take-append-drop}
use Rattle.std.proofs.lemmas.Bool.Decides.{leb_tells, nat_tests}
use borrow.Author.Tests.{ltb-true}
use Rattle.std.proofs.Math.Nat.{mul-le-mul_left, pow-zero, pow-suc, one-mul}
use Rattle.std.proofs.Common.{Ok, Err, eqb, inl, inr}
use Rattle.std.proofs.lemmas.List.Sums.{prefix_len_passes}
use Rattle.tm_base.specs.declared.numbers.NumberFault.TheVariants.{Empty, BadDigit, TooLarge}
use Rattle.tm_base.specs.Numbers.{place_value, value_of, reading_at, digits_reading}

pow-one : (n : ℕ) → n ^ 1 ≡ n
pow-one n = pow-suc n 0 ∙ ap (λ p. p * n) (pow-zero n) ∙ one-mul n

pos_pow : {n : ℕ} (k : ℕ) → 1 ≤ n → 1 ≤ n ^ k
pos_pow {n} zero h = omega (arith, pow-zero n)
pos_pow {n} (suc k) h = let more : n ^ k * 1 ≤ n ^ k * n = mul-le-mul_left _ h in
    omega (arith, pow-suc n k, pos_pow k h)

append_step : (d p m n v w : ℕ) → d * (p * m) + (v * m + w) ≡ (d * p + v) * m + w
append_step d p m n v w = omega arith

-- more digits at the end
pub place_value-append : (base : ℕ) (xs ys : List ℕ) → place_value base (xs ++ ys)
    ≡ place_value base xs * base ^ length ys + place_value base ys
unfolding place_value
place_value-append base [] ys = omega arith
place_value-append base (x ∷ xs) ys =
    rw (length-append xs ys, pow-add base (length xs) (length ys), place_value-append base xs ys)
    (append_step (digit_value x) (base ^ length xs) (base ^ length ys) 0 (place_value base xs) (place_value base ys))

-- one digit
pub place_value-one : (base d : ℕ) → place_value base (d ∷ []) ≡ digit_value d
unfolding place_value
place_value-one base d = rw (pow-zero base) (omega arith)

-- one more digit of a list
pub place_value-more : (base : ℕ) (xs : List ℕ) (i : ℕ) → i < length xs → place_value base (take (i + 1) xs)
    ≡ place_value base (take i xs) * base + digit_value (get_or xs i 0)
place_value-more base xs i h =
    let one : base ^ length (get_or xs i 0 ∷ []) ≡ base = pow-one base in
    rw (
      take_more xs i 0 h,
      place_value-append base (take i xs) (get_or xs i 0 ∷ []),
      place_value-one base (get_or xs i 0),
      one,
    )

-- the digits so far are no more than all
pub place_value-prefix : (base : ℕ) (xs : List ℕ) (i : ℕ) → 1 ≤ base
    → place_value base (take i xs) ≤ place_value base xs
place_value-prefix base xs i some =
    let whole : place_value base xs ≡ place_value base (take i xs) * base ^ length (drop i xs)
    + place_value base (drop i xs) =
    rw (← place_value-append base (take i xs) (drop i xs)) (ap (place_value base) (sym (take-append-drop i xs))) in
    let more : place_value base (take i xs) * 1 ≤ place_value base (take i xs) * base ^ length (drop i xs) =
    mul-le-mul_left _ (pos_pow _ some) in
    omega arith

pub digit_given : (o : Option ℕ) (value radix : ℕ) → SomeIff o (value < radix) value → value < radix
    → unwrap_or o 0 ≡ value
digit_given None value radix given h = absurd (given h)
digit_given (Some x) value radix given h = given.1

-- the value after one more digit
pub next_value : (base : ℕ) (xs : List ℕ) (i v d a b e : ℕ) (o : Option ℕ) → i < length xs
    → v ≡ place_value base (take i xs)
    → d ≡ unwrap_or o 0 → SomeIff o (digit_value (get_or xs i 0) < base) (digit_value (get_or xs i 0))
    → is_digit (get_or xs i 0) base ≡ true
    → a ≡ v → b ≡ base → e ≡ d → a * b + e ≡ place_value base (take (i + 1) xs)
next_value base xs i v d a b e o within so_far digit given is same_v same_b same_d =
    let below : digit_value (get_or xs i 0) < base = ltb-true _ _ is in
    rw (place_value-more base xs i within, same_v, same_b, same_d, so_far, digit, digit_given o _ base given below)

-- what a digit in a small base adds stays below 2 ^ 128
pub next_fits : (v b d : ℕ) → v < 2 ^ 64 → b ≤ 16 → d < 2 ^ 32 → v * b + d < 2 ^ 128
next_fits v b d hv hb hd = let p : v * b ≤ v * 16 = mul-le-mul_left v hb in omega arith

-- the four outcomes
pub reading_empty : (from base : ℕ) (ds : List ℕ) → length ds ≡ 0 → digits_reading from base ds ≡ Err Empty
unfolding digits_reading
reading_empty from base ds none = rw none

pub reading_bad : (from base p : ℕ) (ds : List ℕ) → length ds ≢ 0 → position (λ b. not (is_digit b base)) ds ≡ Some p
    → digits_reading from base ds ≡ Err (BadDigit (from + p))
unfolding digits_reading reading_at
reading_bad from base p ds some bad = let test : eqb (length ds) 0 ≡ false = grind (arith, nat_tests) in rw (test, bad)

pub reading_value : (from base : ℕ) (ds : List ℕ) → length ds ≢ 0 → position (λ b. not (is_digit b base)) ds ≡ None
    → place_value base ds < 2 ^ 64
    → digits_reading from base ds ≡ Ok (place_value base ds)
unfolding digits_reading reading_at value_of
reading_value from base ds some good fits =
    let test : eqb (length ds) 0 ≡ false = grind (arith, nat_tests) in
    let small : nat_lt (place_value base ds) (2 ^ 64) ≡ true = grind (arith, nat_tests) in
    rw (test, good, small)

pub reading_large : (from base : ℕ) (ds : List ℕ) → length ds ≢ 0 → position (λ b. not (is_digit b base)) ds ≡ None
    → (place_value base ds < 2 ^ 64 → ⊥)
    → digits_reading from base ds ≡ Err TooLarge
unfolding digits_reading reading_at value_of
reading_large from base ds some good large =
    let test : eqb (length ds) 0 ≡ false = grind (arith, nat_tests) in
    let big : nat_lt (place_value base ds) (2 ^ 64) ≡ false = grind (arith, nat_tests) in
    rw (test, good, big)

not_not : (b : Bool) → not (not b) ≡ b
not_not true = refl
not_not false = refl

-- where no byte is bad, each is a digit
pub all_digits : (base : ℕ) (ds : List ℕ) → position (λ b. not (is_digit b base)) ds ≡ None → (k : ℕ) → k < length ds
    → is_digit (get_or ds k 0) base ≡ true
all_digits base ds none k h =
    let good = λ (b : ℕ). not (not (is_digit b base)) in
    let whole : length ds ≤ prefix_len good ds =
    elim (leb_tells (suc (prefix_len good ds)) (length ds)) [
      | inl t ↦ let some : Some (prefix_len good ds) ≡ None = rw t.0 at none in absurd (cc)
      | inr t ↦ omega arith
    ] in
    sym (not_not (is_digit (get_or ds k 0) base)) ∙ prefix_len_passes good ds k 0 (omega arith)
