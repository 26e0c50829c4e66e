use Rattle.std.proofs.Common.{◌≡◌, ◌≢◌, ◌≤◌, ◌<◌, ℕ, zero, suc, ◌+◌, ◌-◌, ◌*◌, ◌/◌, ◌%◌, ◌^◌, Bool, true, false, not}
use Rattle.std.proofs.Common.{nat_eq, nat_lt, eqb, List, [], ◌∷◌, ◌++◌, length, take, drop, set, get_or, None, Ok}
use Rattle.std.proofs.Common.{refl, sym, ◌∙◌, arith, codes, append_assoc, add-one}
use Rattle.std.specs.Prelude.{position}
use Rattle.std.specs.Fmt.{decimal, digits, digits_onto, digit_glyph}
use Rattle.std.specs.Char.{digit_value, is_digit, digit_char}
use Rattle.std.specs.List.{starts_with}
use Rattle.std.proofs.lemmas.List.{drop-set, take_more_set}
use Rattle.std.proofs.lemmas.Bool.Decides.{nat_tests}
use Rattle.std.proofs.Math.Nat.{pow-suc, div-lt_iff_lt-mul}
use Rattle.tm_base.specs.Numbers.{hex_text, place_value, number_of}
use Rattle.std.proofs.lemmas.Nat.{pow-add}
use Rattle.std.proofs.lemmas.Grind.{common_steps}
use Rattle.std.proofs.Common.{inl, inr, ◌⊎◌, ◌&&◌}
use Rattle.std.specs.List.{prefix_len}
use Rattle.std.proofs.lemmas.List.Sums.{prefix_len_is}
use Rattle.std.proofs.lemmas.Fmt.{decimal_nonempty}
use Rattle.tm_base.proofs.NumberLemmas.{reading_value}

and_false : (b : Bool) → b && false ≡ false
and_false true = refl
and_false false = refl

same_or_more : (n : ℕ) → (n ≡ 0) ⊎ (n ≢ 0)
same_or_more zero = inl refl
same_or_more (suc n) = inr (λ e. omega arith)

-- what stands once the last k digits of n at most are put before others
unfoldable pub rest_digits : ℕ → ℕ → List ℕ → List ℕ
rest_digits k n acc = digits_onto k 10 false n acc

pub rest_digits-start : (n : ℕ) → rest_digits 64 n [] ≡ decimal n
unfolding rest_digits digits
rest_digits-start n = refl

glyph : (n : ℕ) → digit_glyph false (n % 10) ≡ 48 + n % 10
glyph n = let low : n % 10 < 10 = omega arith in let test : nat_lt (n % 10) 10 ≡ true = grind (arith, nat_tests) in
    rw test

pub rest_digits-more : (k n : ℕ) (acc : List ℕ) → n / 10 ≢ 0 → rest_digits (suc k) n acc
    ≡ rest_digits k (n / 10) ((48 + n % 10) ∷ acc)
unfolding rest_digits
rest_digits-more k n acc h = let test : eqb (n / 10) 0 ≡ false = grind (arith, nat_tests) in rw (test, glyph n)

pub rest_digits-last : (k n : ℕ) (acc : List ℕ) → n / 10 ≡ 0 → rest_digits (suc k) n acc ≡ (48 + n % 10) ∷ acc
unfolding rest_digits
rest_digits-last k n acc h = rw (h, glyph n)

-- one more digit before those of the buffer
pub digit_put : (ds : List ℕ) (at k n : ℕ) (whole : List ℕ) → 1 ≤ at → at ≤ length ds
    → rest_digits (k + at) n (drop at ds) ≡ whole → n / 10 ≢ 0
    → rest_digits (k + (at - 1)) (n / 10) (drop (at - 1) (set ds (at - 1) (48 + n % 10))) ≡ whole
digit_put ds zero k n whole some within so_far more = absurd (omega arith)
digit_put ds (suc at) k n whole some within so_far more =
    let before : suc at - 1 ≡ at = omega arith in
    let count : k + suc at ≡ suc (k + at) = omega arith in
    let put : drop at (set ds at (48 + n % 10)) ≡ (48 + n % 10) ∷ drop (suc at) ds =
    drop-set ds at (48 + n % 10) (omega arith) ∙ rw add-one in
    rw (before, put) (sym (rest_digits-more (k + at) n (drop (suc at) ds) more) ∙ rw count at so_far)

pub digit_last : (ds : List ℕ) (at k n : ℕ) (whole : List ℕ) → 1 ≤ at → at ≤ length ds
    → rest_digits (k + at) n (drop at ds) ≡ whole → n / 10 ≡ 0
    → drop (at - 1) (set ds (at - 1) (48 + n % 10)) ≡ whole
digit_last ds zero k n whole some within so_far more = absurd (omega arith)
digit_last ds (suc at) k n whole some within so_far more =
    let before : suc at - 1 ≡ at = omega arith in
    let count : k + suc at ≡ suc (k + at) = omega arith in
    let put : drop at (set ds at (48 + n % 10)) ≡ (48 + n % 10) ∷ drop (suc at) ds =
    drop-set ds at (48 + n % 10) (omega arith) ∙ rw add-one in
    rw (before, put) (sym (rest_digits-last (k + at) n (drop (suc at) ds) more) ∙ rw count at so_far)

-- a digit less leaves a number of a digit less
pub digit_less : (n at : ℕ) → 1 ≤ at → n < 10 ^ at → n / 10 < 10 ^ (at - 1)
digit_less n zero some h = absurd (omega arith)
digit_less n (suc at) some h =
    let before : suc at - 1 ≡ at = omega arith in
    let room : n < 10 ^ at * 10 = rw (← pow-suc 10 at) h in
    let ten : zero < 10 = omega arith in
    rw before ((div-lt_iff_lt-mul ten).1 room)

pub digits_left : (m at : ℕ) → m ≢ 0 → m < 10 ^ at → 1 ≤ at
digits_left m zero more h = absurd (omega arith)
digits_left m (suc at) more h = omega arith

-- one more hexadecimal digit
pub hex_put : (text : List ℕ) (i digits value d : ℕ) → i < digits → i < length text
    → d ≡ digit_char (value / 16 ^ (digits - (i + 1)) % 16)
    → take i text ++ hex_text (digits - i) value ≡ hex_text digits value
    → take (i + 1) (set text i d) ++ hex_text (digits - (i + 1)) value ≡ hex_text digits value
unfolding hex_text
hex_put text i digits value d h within digit so_far =
    let count : digits - i ≡ suc (digits - (i + 1)) = omega arith in
    let whole = rw count at so_far in
    rw (take_more_set text i d within, append_assoc, digit) whole

pub sixteens : (k : ℕ) → 2 ^ (4 * k) ≡ 16 ^ k
sixteens zero = refl
sixteens (suc k) =
    let more : 4 * suc k ≡ 4 * k + 4 = omega arith in
    rw (more, pow-add 2 (4 * k) 4, sixteens k, pow-suc 16 k)

-- a slice to the end
pub drop_whole : (xs : List ℕ) (i n : ℕ) → length xs ≡ n → take (n - i) (drop i xs) ≡ drop i xs
drop_whole xs i n size = grind (arith, common_steps)

digit_is : (d : ℕ) → d < 10 → digit_value (48 + d) ≡ d
digit_is d h = grind (arith, nat_tests)

value_step : (q r p v : ℕ) → q * (p * 10) + (r * p + v) ≡ (q * 10 + r) * p + v
value_step q r p v = omega arith

place_value-digit : (d : ℕ) (acc : List ℕ) → d < 10 → place_value 10 ((48 + d) ∷ acc)
    ≡ d * 10 ^ length acc + place_value 10 acc
unfolding place_value
place_value-digit d acc h = rw (digit_is d h)

-- what the printed digits stand for
pub place_value-rest : (k n : ℕ) (acc : List ℕ) → n < 10 ^ k → place_value 10 (rest_digits k n acc)
    ≡ n * 10 ^ length acc + place_value 10 acc
unfolding rest_digits
place_value-rest zero n acc h = let none : n ≡ 0 = omega arith in rw none (omega arith)
place_value-rest (suc k) n acc h =
    let low : n % 10 < 10 = omega arith in
    elim (same_or_more (n / 10)) [
      | inl none ↦ rw (rest_digits-last k n acc none, place_value-digit (n % 10) acc low) (let same : n % 10
          ≡ n = omega arith in rw same)
      | inr more ↦
          let room : n < 10 ^ k * 10 = rw (← pow-suc 10 k) h in
          let ten : zero < 10 = omega arith in
          let front : n / 10 < 10 ^ k = (div-lt_iff_lt-mul ten).1 room in
          let whole : n / 10 * 10 + n % 10 ≡ n = omega arith in
          rw (
            rest_digits-more k n acc more,
            place_value-rest k (n / 10) ((48 + n % 10) ∷ acc) front,
            place_value-digit (n % 10) acc low,
            pow-suc 10 (length acc),
            value_step (n / 10) (n % 10) (10 ^ length acc) (place_value 10 acc),
            whole,
          )
    ]

pub value_of_decimal : (n : ℕ) → n < 2 ^ 64 → place_value 10 (decimal n) ≡ n
unfolding place_value
value_of_decimal n h = let room : n < 10 ^ 64 = omega arith in
    rw (← rest_digits-start n, place_value-rest 64 n [] room) (omega arith)

abbrev AreDigits : List ℕ → Type 0
AreDigits xs = (k : ℕ) → k < length xs → (48 ≤ get_or xs k 0) × (get_or xs k 0 ≤ 57)

decimal_digit : (b : ℕ) → 48 ≤ b → b ≤ 57 → not (not (is_digit b 10)) ≡ true
decimal_digit b low high = grind (arith, nat_tests)

digits_first : (d : ℕ) (acc : List ℕ) → d < 10 → AreDigits acc → AreDigits ((48 + d) ∷ acc)
digits_first d acc low h zero below = (omega arith, omega arith)
digits_first d acc low h (suc k) below = h k (omega arith)

AreDigits-rest : (k n : ℕ) (acc : List ℕ) → AreDigits acc → AreDigits (rest_digits k n acc)
unfolding rest_digits
AreDigits-rest zero n acc h = h
AreDigits-rest (suc k) n acc h =
    let low : n % 10 < 10 = omega arith in
    elim (same_or_more (n / 10)) [
      | inl none ↦ rw (rest_digits-last k n acc none) (digits_first (n % 10) acc low h)
      | inr more ↦ rw (rest_digits-more k n acc more)
          (AreDigits-rest k (n / 10) ((48 + n % 10) ∷ acc) (digits_first (n % 10) acc low h))
    ]

AreDigits-decimal : (n : ℕ) → AreDigits (decimal n)
AreDigits-decimal n = rw (← rest_digits-start n) (AreDigits-rest 64 n [] (λ k below. absurd (omega arith)))

-- digits alone hold no bad byte
no_bad : (xs : List ℕ) → AreDigits xs → position (λ b. not (is_digit b 10)) xs ≡ None
no_bad xs h =
    let good = λ (b : ℕ). not (not (is_digit b 10)) in
    let whole : prefix_len good xs ≡ length xs = prefix_len_is good xs (length xs) 0 (omega arith)
    (λ k below. let d = h k below in decimal_digit _ d.0 d.1) (λ past. absurd (omega arith)) in
    let test : nat_lt (length xs) (length xs) ≡ false = grind (arith, nat_tests) in
    rw (whole, test)

digits_no_prefix : (xs : List ℕ) → AreDigits xs → starts_with nat_eq xs (codes "0x") ≡ false
digits_no_prefix [] h = refl
digits_no_prefix (x ∷ []) h = and_false (eqb 48 x)
digits_no_prefix (x ∷ y ∷ xs) h =
    let d = h 1 (omega arith) in
    let other : eqb 120 y ≡ false = grind (arith, nat_tests, d) in
    rw other (and_false (eqb 48 x))

-- the printed form of a number is read as the number
pub decimal_reads_back : (n : ℕ) → n < 2 ^ 64 → number_of (decimal n) ≡ Ok n
unfolding number_of
decimal_reads_back n h =
    let digits = AreDigits-decimal n in
    let some : length (decimal n) ≢ 0 = omega (arith, decimal_nonempty n h) in
    let fits : place_value 10 (decimal n) < 2 ^ 64 = rw (value_of_decimal n h) h in
    rw (
      digits_no_prefix (decimal n) digits,
      reading_value 0 10 (decimal n) some (no_bad (decimal n) digits) fits,
      value_of_decimal n h,
    )
