-- The number that a comparison of all passes gives is what is found in the save areas.
use Rattle.std.proofs.Common.{◌≡◌, ◌⊎◌, inl, inr, ℕ, zero, suc, ◌+◌, ◌-◌, ◌*◌, ◌/◌, ◌%◌, ◌^◌, ◌<◌, eq-eqb, eqb-true}
use Rattle.std.proofs.Common.{List, [], ◌∷◌, length, map, refl, sym, ap, ◌∙◌, subst, arith}
use Rattle.std.specs.Prelude.{slice_index, IsTrue, All}
use Rattle.std.proofs.lemmas.Bool.{cases_eq}
use Rattle.tm_plan_cases.specs.declared.masks.CaseMask.{CaseMask}
use Rattle.tm_plan_cases.specs.declared.program.Program.{Program}
use Rattle.tm_plan_map.specs.Map.{save_at, windows_base}
use Rattle.tm_plan_cases.specs.Collected.{owned}
use Rattle.tm_plan_cases.specs.Shaped.{IsShapedMask}
use Rattle.tm_world.specs.Place.{passes, byte_of}
use Rattle.tm_world.specs.Verdict.{Byte, saved, is_checked}
use Rattle.tm_runs.specs.Machine.{Table}
use Rattle.tm_legal.specs.Tame.{Formed}
use Rattle.tm_blocks_base.specs.Verdict.{IsMaskDword}
use Rattle.tm_blocks_compare.specs.Runs.{mask_addresses, verdict_of_all, SameIn}
use Rattle.tm_blocks_compare.specs.Numbers.{IsNumberOfAll, agree, differ}
use Rattle.tm_blocks_compare.proofs.Least.{names_least_of_all}
use Rattle.tm_pass_way.specs.Parts.{Alike, IsFound, alike, found}
use Rattle.tm_pass_steps.specs.Finding.{HasMasks, ComparisonFinds}
use Rattle.tm_pass_steps.proofs.Mine.{mine}

map-at : (f : ℕ → ℕ) (xs : List ℕ) (j : ℕ) → j < length xs → slice_index (map f xs) j ≡ f (slice_index xs j)
map-at f [] j l = absurd (omega arith)
map-at f (x ∷ xs) zero l = refl
map-at f (x ∷ xs) (suc j) l = map-at f xs j (omega arith)

all-at : (P : ℕ → Type 0) (xs : List ℕ) → All P xs → (j : ℕ) → j < length xs → P (slice_index xs j)
all-at P xs h j l = h j 0 l

module _ (p : Program) (formed : Formed p) (h : ℕ) (m : CaseMask) (shaped : IsShapedMask p.cases m) (mem : Table)
    (masks bytes : ℕ) (has : HasMasks p m h mem masks bytes) where
  abbrev dwords : List ℕ
  dwords = owned p.cases h

  abbrev Equal : ℕ → ℕ → Type 0
  Equal = SameIn mem p.cases h (save_at h 0) masks bytes

  address : (j : ℕ) → j < length dwords → slice_index (mask_addresses p.cases h bytes) j
      ≡ bytes + (slice_index dwords j - windows_base)
  address j l = map-at (λ a. bytes + (a - windows_base)) dwords j l

  mask-byte : (j l : ℕ) → j < length dwords → l < 8 → byte_of (mem (slice_index (mask_addresses p.cases h bytes) j)) l
      ≡ slice_index m.bytes (slice_index dwords j + l - windows_base)
  mask-byte j l a b = ap (λ (x : ℕ). byte_of (mem x) l) (address j a) ∙ has.dwords j l a b

  is-mask : (j : ℕ) → j < length dwords → IsMaskDword (mem (slice_index (mask_addresses p.cases h bytes) j))
  unfolding windows_base
  is-mask j a = (
    subst (λ (x : ℕ). mem x < 2 ^ 64) (sym (address j a)) (has.fits j a),
    (λ l b.
        let z = mine p.cases h j 0 a in
        let k = slice_index dwords j + l - windows_base in
        subst (λ (x : ℕ). (x ≡ 0) ⊎ (x ≡ 255)) (sym (mask-byte j l a b))
        (all-at (λ x. (x ≡ 0) ⊎ (x ≡ 255)) m.bytes shaped.ends k (omega (arith, shaped.bytes, z.low, z.high)))),
  )

  area : (k i : ℕ) → save_at h k + 8 * i ≡ save_at h 0 + 8192 * k + 8 * i
  unfolding save_at
  area k i = omega arith

  to-alike : (k i : ℕ) → i < saved p h → Equal k i → Alike p m h mem k i
  to-alike k i s a = record {
    register = λ l e.
        ap mem (area k i) ∙ sym (a.register l (ap (λ (x : ℕ). x / 2 ^ (i + 1) % 2) has.registers ∙ eqb-true _ 1 e));
    bytes = λ l j n e.
        let is : i ≡ 30 + (i - 30) = omega arith in
        ap (λ (x : ℕ). byte_of (mem x) j) (area k i) ∙ sym
        (a.bytes (i - 30) j is n (mask-byte (i - 30) j (omega arith) n ∙ eqb-true _ 255 e));
  }

  from-alike : (k i : ℕ) → i < saved p h → Alike p m h mem k i → Equal k i
  from-alike k i s a = record {
    register = λ l e. sym (ap mem (sym (area k i)) ∙ a.register l
        (eq-eqb _ 1 (ap (λ (x : ℕ). x / 2 ^ (i + 1) % 2) (sym has.registers) ∙ e)));
    bytes = λ j l is n e.
        let same : i - 30 ≡ j = omega arith in
        let b : slice_index m.bytes (slice_index dwords j + l - windows_base) ≡ 255 =
        sym (mask-byte j l (omega arith) n) ∙ e in
        sym (ap (λ (x : ℕ). byte_of (mem x) l) (sym (area k i)) ∙ a.bytes (omega arith) l n
        (subst (λ (x : ℕ). IsTrue (is_checked m h (Byte (slice_index dwords x + l)))) (sym same) (eq-eqb _ 255 b)));
  }

  none : (i : ℕ) → Alike p m h mem 0 i
  none i = record { register = λ l e. refl; bytes = λ l j n e. refl }

  finds : (v : ℕ) → IsNumberOfAll Equal (passes p) (saved p h) v → IsFound p m h mem v
  finds v (agree f) = alike (λ k i a b. by k i a b (cases_eq k 0))
    where
      by : (k i : ℕ) → k < passes p → i < saved p h → (k ≡ 0) ⊎ (k ≡ 0 → ⊥) → Alike p m h mem k i
      by k i a b (inl e) = subst (λ (x : ℕ). Alike p m h mem x i) (sym e) (none i)
      by k i a b (inr n) = to-alike k i b (f k i (omega arith) a b)
  finds v (differ k i one few short n f g) = found k i few short (λ a. n (from-alike k i short a))
      (λ k' i' l s. by k' i' l s (cases_eq k' 0)) (λ i' l. to-alike k i' (omega arith) (g i' l))
    where
      by : (k' i' : ℕ) → k' < k → i' < saved p h → (k' ≡ 0) ⊎ (k' ≡ 0 → ⊥) → Alike p m h mem k' i'
      by k' i' l s (inl e) = subst (λ (x : ℕ). Alike p m h mem x i') (sym e) (none i')
      by k' i' l s (inr z) = to-alike k' i' s (f k' i' (omega arith) l s)

pub comparison-finds : (p : Program) → ComparisonFinds p
comparison-finds p formed h m shaped mem masks bytes has =
    finds p formed h m shaped mem masks bytes has (verdict_of_all mem p.cases h (save_at h 0) masks bytes)
    (names_least_of_all p.cases h (save_at h 0) masks bytes mem (let k = formed.program.cases.passes in
    omega arith) (is-mask p formed h m shaped mem masks bytes has))
