-- Hexadecimal digits, read one after another.
use Rattle.std.proofs.Common.{◌≡◌, ◌∙◌, ◌≤◌, ◌<◌, ◌+◌, ◌-◌, ◌*◌, ◌^◌, ◌&&◌, ℕ, suc, Bool, true, false, refl}
use Rattle.std.proofs.Common.{sym, ap}
use Rattle.std.proofs.Common.{subst, arith, List, [], ◌∷◌, length, take, drop, true≢false}
use Rattle.std.specs.Prelude.{slice_index}
use Rattle.std.specs.Char.{digit_value}
use Rattle.std.specs.List.{list_all}
use Rattle.std.proofs.Math.Nat.{pow-suc, pow-le-pow_right}
use Rattle.tm_trace.specs.Fields.{hex_from, is_hex}

-- of a number's digits some were read, and these are left
abbrev pub Left : (whole : ℕ) → (count value : ℕ) → List ℕ → Type 0
Left whole count value left =
    (hex_from value left ≡ whole) × (list_all is_hex left ≡ true) × (length left ≤ count)
    × (value < 16 ^ (count - length left))

and_rest : (a b : Bool) → (a && b) ≡ true → b ≡ true
and_rest true b e = e
and_rest false b e = absurd (true≢false (sym e))

all_taken : (xs : List ℕ) → take (length xs) xs ≡ xs
all_taken [] = refl
all_taken (x ∷ xs) = ap (λ t. x ∷ t) (all_taken xs)

digit_more : (value d p : ℕ) → value < p → d < 16 → value * 16 + d < p * 16
digit_more value d p low digit = omega (arith, low, digit)

-- one digit more
pub goes_on : (whole count value d : ℕ) (left : List ℕ) → Left whole count value left → 1 ≤ length left
    → d ≡ digit_value (slice_index left 0) → d < 16
    → Left whole count (value * 16 + d) (take (length left - 1) (drop 1 left))
goes_on whole count value d [] l some digit low = absurd (omega arith)
goes_on whole count value d (b ∷ bs) l some digit low =
    let one : suc (length bs) - 1 ≡ length bs = omega arith in
    let same : take (suc (length bs) - 1) bs ≡ bs = ap (λ (n : ℕ). take n bs) one ∙ all_taken bs in
    let within : suc (length bs) ≤ count = l.2 in
    let count_on : count - length bs ≡ suc (count - suc (length bs)) = omega (arith, within) in
    let below : value * 16 + d < 16 ^ (count - length bs) =
    rw (count_on, pow-suc 16 (count - suc (length bs)))
    (digit_more value d (16 ^ (count - suc (length bs))) l.3 low) in
    subst (Left whole count (value * 16 + d)) (sym same) (
      ap (λ (n : ℕ). hex_from (value * 16 + n) bs) digit ∙ l.0,
      and_rest (is_hex b) (list_all is_hex bs) l.1,
      omega (arith, within),
      below,
    )

-- a number with a digit to come has room for it
pub room : (whole count value : ℕ) (left : List ℕ) → Left whole count value left → 1 ≤ length left → count ≤ 16
    → value < 16 ^ 15
room whole count value left l some few =
    let within = l.2 in
    let most : 16 ^ (count - length left) ≤ 16 ^ 15 =
    pow-le-pow_right {n = 16} (omega arith) {i = count - length left} {j = 15} (omega (arith, some, few, within)) in
    let low = l.3 in omega (arith, most, low)
