-- Rows, harts, text and tables, one more at a time.
use Rattle.std.proofs.Common.{◌≡◌, ℕ, ◌+◌, ◌-◌, ◌*◌, ◌/◌, ◌%◌, ◌^◌, ◌≤◌, ◌<◌, List, [], ◌∷◌, ◌++◌, ◌⊎◌, inl, inr}
use Rattle.std.proofs.Common.{refl, sym, ap, ◌∙◌, subst, length, get_or, arith}
use Rattle.std.specs.Prelude.{slice_index}
use Rattle.std.proofs.lemmas.Bool.{cases_eq, cases_lt}
use Rattle.std.proofs.lemmas.List.{get_or_append_left, get_or-append_right}
use Rattle.tm_base.specs.declared.limits.TheConstants.{TEXT_WORDS, TABLES_BYTES}
use Rattle.tm_plan_map.specs.declared.addresses.TheConstants.{TEXT_ADDRESS, TABLES_ADDRESS}
use Rattle.tm_plan_map.specs.Map.{guest_base, guest_end}
use Rattle.tm_ram.specs.Region.{Region, IsPlace}
use Rattle.tm_world.specs.Place.{byte_of}
use Rattle.tm_guest.specs.Memory.{IsGuestRegion}
use Rattle.tm_guest.specs.Start.{HasText, HasTables}

-- what holds of each element and of one more holds of each
pub one-more : {A : Type 0} (P : ℕ → A → Type 0) (xs : List A) (x : A) (i : ℕ) → length xs ≡ i
    → ((k : ℕ) (d : A) → k < i → P k (get_or xs k d)) → P i x
    → (k : ℕ) (d : A) → k < i + 1 → P k (get_or (xs ++ x ∷ []) k d)
one-more {A = A} P xs x i n each last k d l = by (cases_eq k i)
  where
    by : (k ≡ i) ⊎ (k ≡ i → ⊥) → P k (get_or (xs ++ x ∷ []) k d)
    by (inl e) =
        let z : k - i ≡ 0 = omega arith in
        let q : get_or (xs ++ x ∷ []) k d ≡ x =
        get_or-append_right xs (x ∷ []) i k d n (omega arith) ∙ ap (λ (j : ℕ). get_or (x ∷ []) j d) z in
        subst (λ (y : A). P k y) (sym q) (subst (λ (j : ℕ). P j x) (sym e) last)
    by (inr m) =
        subst (λ (y : A). P k y) (sym (get_or_append_left xs (x ∷ []) d k (omega arith))) (each k d (omega arith))

-- ---- stores

-- What a store says, of a region before and after it.
pub record Stores (r t : Region) (at width value : ℕ) : Type 0 where
  pub base : t.base ≡ r.base
  pub long : length t.bytes ≡ length r.bytes
  pub inside : (i : ℕ) → i < width → slice_index t.bytes (at + i) ≡ value / 256 ^ i % 256
  pub outside : (k : ℕ) → (k < at) ⊎ (at + width ≤ k) → slice_index t.bytes k ≡ slice_index r.bytes k

pub stores-to : (r t : Region) (x y width v w : ℕ) → Stores r t x width v → x ≡ y → v ≡ w → Stores r t y width w
stores-to r t x y width v w s e f =
    subst (λ (z : ℕ). Stores r t z width w) e (subst (λ (z : ℕ). Stores r t x width z) f s)

pub region-more : (r t : Region) (at width value : ℕ) → Stores r t at width value → IsGuestRegion r → IsGuestRegion t
region-more r t at width value s g = record { base = s.base ∙ g.base; end = omega (arith, s.base, s.long, g.end) }

-- ---- text

pub text-place : (r : Region) (i n : ℕ) → IsGuestRegion r → i < n → n ≤ TEXT_WORDS
    → IsPlace r (TEXT_ADDRESS + 4 * i) 4
unfolding guest_base guest_end
text-place r i n g l m = record {
  wide = inr (inr (inl refl));
  aligned = omega arith;
  from = omega (arith, g.base);
  to = omega (arith, g.base, g.end);
}

-- byte k of the text is byte k % 4 of word k / 4
pub text-more : (text : List ℕ) (i : ℕ) (r0 r t : Region) → Stores r t (4 * i) 4 (slice_index text i)
    → HasText text i r0 r → HasText text (i + 1) r0 t
text-more text i r0 r t s h = record {
  inside = λ k l. by k l (cases_lt k (4 * i));
  outside = λ k l. s.outside k (inr (omega arith)) ∙ h.outside k (omega arith);
}
  where
    by : (k : ℕ) → k < 4 * (i + 1) → (k < 4 * i) ⊎ (4 * i ≤ k)
        → slice_index t.bytes k ≡ byte_of (slice_index text (k / 4)) (k % 4)
    by k l (inl m) = s.outside k (inl m) ∙ h.inside k m
    by k l (inr m) =
        let at : k ≡ 4 * i + (k - 4 * i) = omega arith in
        let word : i ≡ k / 4 = omega arith in
        let byte : k - 4 * i ≡ k % 4 = omega arith in
        ap (slice_index t.bytes) at ∙ (s.inside (k - 4 * i) (omega arith)
        ∙ (ap (byte_of (slice_index text i)) byte ∙ ap (λ (j : ℕ). byte_of (slice_index text j) (k % 4)) word))

-- ---- tables

pub tables-place : (r : Region) (i n : ℕ) → IsGuestRegion r → i < n → n ≤ TABLES_BYTES
    → IsPlace r (TABLES_ADDRESS + i) 1
unfolding guest_base guest_end
tables-place r i n g l m = record {
  wide = inl refl;
  aligned = omega arith;
  from = omega (arith, g.base);
  to = omega (arith, g.base, g.end);
}

pub tables-more : (tables : List ℕ) (i : ℕ) (r0 r t : Region) → slice_index tables i < 256
    → Stores r t (8388608 + i) 1 (slice_index tables i) → HasTables tables i r0 r → HasTables tables (i + 1) r0 t
tables-more tables i r0 r t small s h = record {
  inside = λ k l. by k l (cases_eq k i);
  outside = λ k l. elim l [
    | inl m ↦ s.outside k (inl (omega arith)) ∙ h.outside k (inl m)
    | inr m ↦ s.outside k (inr (omega arith)) ∙ h.outside k (inr (omega arith))
  ];
}
  where
    by : (k : ℕ) → k < i + 1 → (k ≡ i) ⊎ (k ≡ i → ⊥) → slice_index t.bytes (8388608 + k) ≡ slice_index tables k
    by k l (inl e) =
        let at : 8388608 + k ≡ 8388608 + i + 0 = omega arith in
        let one : slice_index tables i / 256 ^ 0 % 256 ≡ slice_index tables i = omega arith in
        ap (slice_index t.bytes) at ∙ (s.inside 0 (omega arith) ∙ (one ∙ ap (slice_index tables) (sym e)))
    by k l (inr n) = s.outside (8388608 + k) (inl (omega arith)) ∙ h.inside k (omega arith)
