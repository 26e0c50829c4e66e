-- Words of registers that aren't held.
use Rattle.std.proofs.Common.{◌≡◌, ◌≤◌, ◌<◌, ◌+◌, ◌*◌, ◌%◌, ◌/◌, ◌^◌, ℕ, ◌↔◌, ◌⊎◌, inl, inr, bit_and, bit_or, w32}
use Rattle.std.proofs.Common.{sym, subst, ◌∙◌, arith}
use Rattle.std.specs.Int.{bit_at}
use Rattle.std.proofs.lemmas.Bool.{cases_eq}
use Rattle.std.proofs.lemmas.Nat.Bits.{bit_at_set_same, bit_at_set_other, shr_and_one}
use Rattle.tm_plane.specs.Plane.{Bit}

pub with-one : (word held r : ℕ) → r < 32 → (bit_and (held / 2 ^ r) 1 ≡ 1 → ⊥) → (j : ℕ)
    → Bit (bit_or word (1 * 2 ^ r % 2 ^ 32)) j ↔ (((j ≡ r) × (Bit held r → ⊥)) ⊎ Bit word j)
with-one word held r small free j = elim (cases_eq j r) [
  | inl e ↦ (
    (λ b. inl (e, λ h. free (shr_and_one held r ∙ h))),
    (λ s. subst (λ (i : ℕ). Bit (bit_or word (1 * 2 ^ r % 2 ^ 32)) i) (sym e) (bit_at_set_same w32 word r small)),
  )
  | inr n ↦
      let other : bit_at (bit_or word (1 * 2 ^ r % 2 ^ 32)) j ≡ bit_at word j = bit_at_set_other w32 word r small j n in
      ((λ b. inr (sym other ∙ b)), (λ s. elim s [ inl e ↦ absurd (n e.0) | inr b ↦ other ∙ b ]))
]

pub one-register : (held old new r : ℕ) → 1 ≤ r → ((j : ℕ) → Bit new j ↔ (((j ≡ r) × (Bit held r → ⊥)) ⊎ Bit old j))
    → ((j : ℕ) → Bit old j ↔ ((1 ≤ j) × (j < r) × (Bit held j → ⊥))) → (j : ℕ) → Bit new j
    ↔ ((1 ≤ j) × (j < r + 1) × (Bit held j → ⊥))
one-register held old new r some step before j = (to, back)
  where
    to : Bit new j → (1 ≤ j) × (j < r + 1) × (Bit held j → ⊥)
    to b = elim ((step j).0 b) [
      | inl p ↦ (omega (arith, p.0), omega (arith, p.0), subst (λ (i : ℕ). Bit held i → ⊥) (sym p.0) p.1)
      | inr o ↦ (let q = (before j).0 o in (q.0, omega (arith, q.1), q.2))
    ]

    back : (1 ≤ j) × (j < r + 1) × (Bit held j → ⊥) → Bit new j
    back p = elim (cases_eq j r) [
      | inl e ↦ (step j).1 (inl (e, subst (λ (i : ℕ). Bit held i → ⊥) e p.2))
      | inr n ↦ (step j).1 (inr ((before j).1 (p.0, omega (arith, p.1), p.2)))
    ]
