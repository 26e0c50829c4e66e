-- Bits of words.
use Rattle.std.proofs.Common.{◌≡◌, ◌<◌, ◌≤◌, ◌*◌, ◌%◌, ◌-◌, ◌^◌, ℕ, ◌↔◌, ◌⊎◌, inl, inr, IsTrue, Bool, true, false}
use Rattle.std.proofs.Common.{min, max, bit_and, bit_or, w64, sym, ap, subst, ◌∙◌, arith}
use Rattle.std.specs.Int.{bit_at, bit_not, trailing_zeros}
use Rattle.std.proofs.lemmas.Bool.{cases_eq}
use Rattle.std.proofs.lemmas.Nat.Bits.{bit_at_and, bit_at_or, bit_at_not, bit_at-lt, bit_at_above, bit_at-zero}
use Rattle.std.proofs.lemmas.Nat.Bits.{bit_at-trailing_zeros, bit_at_set_same, bit_at_set_other}
use Rattle.tm_plane.specs.Plane.{Bit, Overwritten}

-- one bit more
pub with-one : (word k : ℕ) → k < 64 → (j : ℕ) → Bit (bit_or word (1 * 2 ^ k % 2 ^ 64)) j ↔ ((j ≡ k) ⊎ Bit word j)
with-one word k small j = elim (cases_eq j k) [
  | inl e ↦ (
    λ b. inl e,
    λ s. subst (λ (i : ℕ). Bit (bit_or word (1 * 2 ^ k % 2 ^ 64)) i) (sym e)
        (bit_at_set_same w64 word k small),
  )
  | inr n ↦
      let other : bit_at (bit_or word (1 * 2 ^ k % 2 ^ 64)) j ≡ bit_at word j = bit_at_set_other w64 word k small j n in
      (λ b. inr (sym other ∙ b), λ s. elim s [ inl e ↦ absurd (n e) | inr b ↦ other ∙ b ])
]

-- no bit of 0 is set
pub bit-none : (j : ℕ) → Bit 0 j → ⊥
bit-none j b = let z : bit_at 0 j ≡ 0 = bit_at-zero j in omega arith

-- a bit of both
pub bit-and : (a b r : ℕ) → Bit (bit_and a b) r ↔ (Bit a r × Bit b r)
bit-and a b r =
    let e : bit_at (bit_and a b) r ≡ min (bit_at a r) (bit_at b r) = bit_at_and a b r in
    let la = bit_at-lt a r in
    let lb = bit_at-lt b r in
    (λ h. (omega arith, omega arith), λ p. omega (arith, p.0, p.1))

or-parts : (a b : ℕ) → a < 2 → b < 2 → max a b ≡ 1 → (a ≡ 1) ⊎ (b ≡ 1)
or-parts a b la lb h = grind arith

-- a bit of one of them
pub bit-or : (a b r : ℕ) → Bit (bit_or a b) r ↔ (Bit a r ⊎ Bit b r)
bit-or a b r =
    let e : bit_at (bit_or a b) r ≡ max (bit_at a r) (bit_at b r) = bit_at_or a b r in
    let la = bit_at-lt a r in
    let lb = bit_at-lt b r in (
      λ h. or-parts (bit_at a r) (bit_at b r) la lb (sym e ∙ h),
      λ s. elim s [ inl p ↦ omega arith | inr p ↦ omega arith ],
    )

inside_or_past : (r : ℕ) → (r < 64) ⊎ (64 ≤ r)
inside_or_past r = grind arith

out_back : (a w : ℕ) → a < 2 → w < 2 → a ≡ 1 → (w ≡ 1 → ⊥) → min a (1 - w) ≡ 1
out_back a w la lw e n = let z : w ≡ 0 = grind arith in omega arith

and_not : (held writes r : ℕ) → held < 2 ^ 64 → writes < 2 ^ 64 → bit_at (bit_and held (bit_not w64 writes)) r
    ≡ min (bit_at held r) (1 - bit_at writes r)
and_not held writes r lh lw = go (inside_or_past r)
  where
    go : (r < 64) ⊎ (64 ≤ r) → bit_at (bit_and held (bit_not w64 writes)) r ≡ min (bit_at held r) (1 - bit_at writes r)
    go (inl lt) = bit_at_and held (bit_not w64 writes) r ∙ ap (λ x. min (bit_at held r) x)
        (bit_at_not w64 writes r lw lt)
    go (inr le) = let z : bit_at held r ≡ 0 = bit_at_above held 64 r lh le in
        bit_at_and held (bit_not w64 writes) r ∙ omega (arith, z)

-- a bit of the first alone
pub bit-without : (held writes r : ℕ) → held < 2 ^ 64 → writes < 2 ^ 64 → Bit (bit_and held (bit_not w64 writes)) r
    ↔ (Bit held r × (Bit writes r → ⊥))
bit-without held writes r lh lw =
    let e = and_not held writes r lh lw in
    let la = bit_at-lt held r in
    let lb = bit_at-lt writes r in
    (λ h. (omega arith, λ w. omega arith), λ p. e ∙ out_back (bit_at held r) (bit_at writes r) la lb p.0 p.1)

-- ---- what is held after a write

pub IsKept : ℕ → ℕ → Bool → ℕ → Type 0
IsKept held writes covered kept = (r : ℕ) → Bit kept r ↔ (Bit held r × ((Bit writes r → ⊥) ⊎ IsTrue covered))

pub kept-covered : (held writes : ℕ) (covered : Bool) (kept : ℕ) → covered ≡ true → kept ≡ held
    → IsKept held writes covered kept
unfolding IsKept
kept-covered held writes covered kept c e r = (
  λ b. (subst (λ k. Bit k r) e b, inr c),
  λ p. subst (λ k. Bit k r) (sym e) p.0,
)

pub kept-uncovered : (held writes : ℕ) (covered : Bool) (kept : ℕ) → covered ≡ false → held < 2 ^ 64 → writes < 2 ^ 64
    → kept ≡ bit_and held (bit_not w64 writes) → IsKept held writes covered kept
unfolding IsKept
kept-uncovered held writes covered kept c lh lw e r = (to, back)
  where
    to : Bit kept r → Bit held r × ((Bit writes r → ⊥) ⊎ IsTrue covered)
    to b = let p = (bit-without held writes r lh lw).0 (subst (λ (k : ℕ). Bit k r) e b) in (p.0, inl p.1)

    back : Bit held r × ((Bit writes r → ⊥) ⊎ IsTrue covered) → Bit kept r
    back (h, inl n) = subst (λ (k : ℕ). Bit k r) (sym e) ((bit-without held writes r lh lw).1 (h, n))
    back (h, inr t) = absurd (cc (c, t))

pub with-writes : (held writes : ℕ) (marks covered : Bool) (kept : ℕ) → marks ≡ true → IsKept held writes covered kept
    → (r : ℕ) → Bit (bit_or kept writes) r ↔ Overwritten (Bit writes r) (Bit held r) marks covered
unfolding IsKept
with-writes held writes marks covered kept m k r = (to, back)
  where
    to : Bit (bit_or kept writes) r → Overwritten (Bit writes r) (Bit held r) marks covered
    to b = elim ((bit-or kept writes r).0 b) [ inl x ↦ inr ((k r).0 x) | inr w ↦ inl (w, m) ]

    back : Overwritten (Bit writes r) (Bit held r) marks covered → Bit (bit_or kept writes) r
    back (inl p) = (bit-or kept writes r).1 (inr p.0)
    back (inr p) = (bit-or kept writes r).1 (inl ((k r).1 p))

pub without-writes : (held writes : ℕ) (marks covered : Bool) (kept : ℕ) → marks ≡ false
    → IsKept held writes covered kept → (r : ℕ) → Bit kept r ↔ Overwritten (Bit writes r) (Bit held r) marks covered
unfolding IsKept
without-writes held writes marks covered kept m k r = (λ b. inr ((k r).0 b), back)
  where
    back : Overwritten (Bit writes r) (Bit held r) marks covered → Bit kept r
    back (inl p) = absurd (cc (m, p.1))
    back (inr p) = (k r).1 p

-- ---- words that meet

pub meets-to : (held reads : ℕ) → bit_and held reads < 2 ^ 64 → (bit_and held reads ≡ 0 → ⊥) → (s : ℕ) × Bit reads s
    × Bit held s
meets-to held reads small n =
    let pos : 0 < bit_and held reads = grind arith in
    let i = trailing_zeros w64 (bit_and held reads) in
    let b = bit_at-trailing_zeros w64 (bit_and held reads) pos small in
    let p = (bit-and held reads i).0 b.1 in
    (i, p.1, p.0)

pub meets-back : (held reads : ℕ) → (s : ℕ) × Bit reads s × Bit held s → bit_and held reads ≡ 0 → ⊥
meets-back held reads (s, r, h) z = bit-none s (subst (λ (n : ℕ). Bit n s) z ((bit-and held reads s).1 (h, r)))
