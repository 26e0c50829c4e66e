-- The part of a line that is a hart's own.
use Rattle.std.proofs.Common.{le_trans, ◌≡◌, ◌≤◌, ◌<◌, ℕ, zero, suc, ◌+◌, ◌*◌, ◌/◌, ◌%◌, ◌^◌, refl, inl, inr, ◌⊎◌}
use Rattle.std.proofs.Common.{arith, rules, IsTrue}
use Rattle.std.proofs.lemmas.Bool.Decides.{leb_tells, nat_tests}
use Rattle.std.proofs.lemmas.Bool.{cases_eq}
use Rattle.std.proofs.Math.Pow.{pow_mono}
use Rattle.std.proofs.Math.Nat.{div-le_self, mod-eq_of_lt, mul-le-mul_left, mul-div-le, div-eq_of_lt-le}
use Rattle.std.proofs.Math.Nat.{le-div_iff_mul-le, div-lt_iff_lt-mul}
use Rattle.std.proofs.lemmas.Nat.{pow_pos, le-div}
use Rattle.tm_base.specs.declared.limits.TheConstants.{HART_ROOM, LONG_LINE, MIDDLE_LINE, SHORT_LINE}
use Rattle.tm_base.specs.Limits.{is_line_size}
use Rattle.tm_place.specs.Numbers.{power_within, part_size, IsPart}

-- a power above another has a greater exponent
pub exponent_lt : (i j : ℕ) → 2 ^ i < 2 ^ j → i < j
exponent_lt i j h = grind (arith, pow_mono {i = j} {j = i})

pub double : (j : ℕ) → 2 ^ suc j ≡ 2 * 2 ^ j
double j = search (rules, arith)

-- the power that n lies between and its double
pub power_within-is : (k n j : ℕ) → 2 ^ j ≤ n → n < 2 * 2 ^ j → j ≤ k → power_within k n ≡ 2 ^ j
power_within-is zero n j low high within = let none : j ≡ 0 = omega arith in rw none
power_within-is (suc k) n j low high within =
    elim (leb_tells (2 ^ suc k) n) [
      | inl h ↦
          let up : 2 ^ suc k < 2 ^ suc j = rw (double j) (omega arith) in
          let lt : suc k < suc j = exponent_lt (suc k) (suc j) up in
          let same : j ≡ suc k = omega arith in
          rw h.0 (rw same)
      | inr h ↦
          let up : 2 ^ j < 2 ^ suc k = omega arith in
          let lt : j < suc k = exponent_lt j (suc k) up in
          rw h.0 (power_within-is k n j low high (omega arith))
    ]

-- one of the three line sizes
abbrev pub IsSize : ℕ → Type 0
IsSize n = (n ≡ SHORT_LINE) ⊎ ((n ≡ MIDDLE_LINE) ⊎ (n ≡ LONG_LINE))

pub line_size-cases : (n : ℕ) → IsTrue (is_line_size n) → IsSize n
line_size-cases n h = elim (cases_eq n 32) [
  | inl e ↦ inl e
  | inr f ↦ elim (cases_eq n 64) [
    | inl e ↦ inr (inl e)
    | inr g ↦ inr (inr (grind (arith, nat_tests)))
  ]
]

pub line_size-le : (line : ℕ) → IsTrue (is_line_size line) → line ≤ 128
line_size-le line h = elim (line_size-cases line h) [
  | inl e ↦ omega arith
  | inr (inl e) ↦ omega arith
  | inr (inr e) ↦ omega arith
]

-- a shift that stays within a word
pub shifted : (j : ℕ) → 2 ^ j ≤ 128 → 1 * 2 ^ j % 2 ^ 32 ≡ 2 ^ j
shifted j h = let small : 1 * 2 ^ j < 2 ^ 32 = omega arith in rw (mod-eq_of_lt small) (omega arith)

pub part_size-is : (line harts j : ℕ) → line ≤ 128 → 2 ^ j ≤ line / harts → line / harts < 2 * 2 ^ j
    → part_size line harts ≡ 2 ^ j
unfolding part_size
part_size-is line harts j fits low high =
    let q : line / harts ≤ line = div-le_self line harts in
    let up : 2 ^ j < 2 ^ 8 = omega arith in
    let lt : j < 8 = exponent_lt j 8 up in
    power_within-is 7 (line / harts) j low high (omega arith)

pub part_size-part : (line harts j : ℕ) → 2 ^ j ≤ line / harts → line / harts < 2 * 2 ^ j → IsPart line harts (2 ^ j)
part_size-part line harts j low high = record {
  power = (j, refl);
  fits = low;
  greatest = λ k h.
      let up : 2 ^ k < 2 ^ suc j = rw (double j) (omega arith) in
      let lt : k < suc j = exponent_lt k (suc j) up in
      pow_mono (omega arith);
}

-- a power that is at most n, where n is at least 1
power_within-le : (k n : ℕ) → 1 ≤ n → power_within k n ≤ n
power_within-le zero n some = some
power_within-le (suc k) n some =
    elim (leb_tells (2 ^ suc k) n) [
      | inl h ↦ rw h.0 (h.1)
      | inr h ↦ rw h.0 (power_within-le k n some)
    ]

power_within-some : (k n : ℕ) → 1 ≤ power_within k n
power_within-some zero n = omega arith
power_within-some (suc k) n =
    elim (leb_tells (2 ^ suc k) n) [
      | inl h ↦ rw h.0 (pow_pos (suc k))
      | inr h ↦ rw h.0 (power_within-some k n)
    ]

-- a part is at least one byte
pub part_size-some : (line harts : ℕ) → 1 ≤ part_size line harts
unfolding part_size
part_size-some line harts = power_within-some 7 (line / harts)

-- the parts of all harts fit in a line
pub part_size-fits : (line harts : ℕ) → IsTrue (is_line_size line) → 1 ≤ harts → harts ≤ HART_ROOM
    → harts * part_size line harts ≤ line
unfolding part_size
part_size-fits line harts size some few =
    let least : 32 ≤ line =
    elim (line_size-cases line size) [ inl e ↦ omega arith | inr (inl e) ↦ omega arith | inr (inr e) ↦ omega arith ]
    in
    let q : 1 ≤ line / harts = le-div 1 line harts some (omega arith) in
    let fits : power_within 7 (line / harts) ≤ line / harts = power_within-le 7 (line / harts) q in
    let more : harts * power_within 7 (line / harts) ≤ harts * (line / harts) = mul-le-mul_left harts fits in
    let turned : harts * (line / harts) ≤ line = mul-div-le line harts in
    le_trans more turned

pub size-some : (line : ℕ) → IsSize line → 1 ≤ line
size-some line (inl h) = omega arith
size-some line (inr (inl h)) = omega arith
size-some line (inr (inr h)) = omega arith

-- the part in which a byte lies
pub part-at : (r part h : ℕ) → 1 ≤ part → h * part ≤ r → r < (h + 1) * part → r / part ≡ h
part-at r part h some low high = div-eq_of_lt-le part low high

pub part-from : (r part h : ℕ) → 1 ≤ part → r / part ≡ h → (h * part ≤ r) × (r < (h + 1) * part)
part-from r part h some e =
    let least : h ≤ r / part = omega arith in
    let most : r / part < h + 1 = omega arith in
    ((le-div_iff_mul-le some).0 least, (div-lt_iff_lt-mul some).0 most)
