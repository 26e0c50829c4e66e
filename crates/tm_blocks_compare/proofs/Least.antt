-- The verdict names the least pass and the least dword.
use Rattle.std.proofs.Common.{◌≡◌, ◌≢◌, ℕ, zero, suc, ◌+◌, ◌-◌, ◌*◌, ◌/◌, ◌%◌, ◌^◌, ◌<◌, ◌≤◌, ◌⊎◌, inl, inr, Bool}
use Rattle.std.proofs.Common.{true, false, not, ◌&&◌, ◌==◌, List, [], ◌∷◌, length, refl, sym, ap, ap₂, ◌∙◌, arith}
use Rattle.std.proofs.Common.{subst, ne_eqb}
use Rattle.std.specs.Prelude.{if◌then◌else◌, bit_and, bit_xor, slice_index}
use Rattle.std.proofs.lemmas.Bool.{cases_lt, lt-ltb, le-ltb}
use Rattle.std.proofs.lemmas.List.{length-map}
use Rattle.tm_plan_cases.specs.declared.cases.Cases.{Cases}
use Rattle.tm_plan_map.specs.Map.{windows_base}
use Rattle.tm_plan_cases.specs.Collected.{owned}
use Rattle.tm_runs.specs.Machine.{Table}
use Rattle.tm_blocks_base.specs.Verdict.{differs, first_from, above, verdict_number, IsNumber, agree, differ}
use Rattle.tm_blocks_base.specs.Verdict.{IsMaskDword}
use Rattle.tm_blocks_base.specs.Verdict.{Agrees}
use Rattle.tm_blocks_base.proofs.Masks.{verdict_agrees}
use Rattle.tm_blocks_compare.specs.Numbers.{either, first_register, first_dword, first_of_pass, verdict_from}
use Rattle.tm_blocks_compare.specs.Numbers.{IsNumberOfAll}
use Rattle.tm_blocks_compare.specs.Numbers as all
use Rattle.tm_blocks_compare.specs.Runs.{mask_addresses, verdict_of_all, SameIn, NamesLeastOfAll}

either-if : (c : Bool) (i y : ℕ) → either (if c then suc i else 0) y ≡ (if c then suc i else y)
either-if true i y = refl
either-if false i y = refl

-- ---- a pass is a search over one test

from-append : (test : ℕ → Bool) (a b i : ℕ) → first_from test i (a + b)
    ≡ either (first_from test i a) (first_from test (i + a) b)
from-append test zero b i = ap₂ (first_from test) (let e : i ≡ i + 0 = omega arith in
    e) (let e : 0 + b ≡ b = omega arith in e)
from-append test (suc a) b i =
    let e : suc a + b ≡ suc (a + b) = omega arith in
    let f : suc i + a ≡ i + suc a = omega arith in
    ap (first_from test i) e ∙ (by (test i) (from-append test a b (suc i)) ∙ ap
    (λ (x : ℕ). either (first_from test i (suc a)) (first_from test x b)) f)
  where
    by : (c : Bool) → first_from test (suc i) (a + b)
        ≡ either (first_from test (suc i) a) (first_from test (suc i + a) b)
        → (if c then suc i else first_from test (suc i) (a + b))
        ≡ either (if c then suc i else first_from test (suc i) a) (first_from test (suc i + a) b)
    by true h = refl
    by false h = h

module _ (mem : Table) (M p q : ℕ) (rs : List ℕ) where
  abbrev mask : ℕ → ℕ
  mask j = mem (slice_index rs j)

  abbrev a : ℕ → ℕ
  a i = mem (p + 8 * i)

  abbrev b : ℕ → ℕ
  b i = mem (q + 8 * i)

  abbrev test : ℕ → Bool
  test = differs M mask a b

  registers-are : (n i p' q' : ℕ) → p' ≡ p + 8 * i → q' ≡ q + 8 * i → i + n ≤ 30 → first_register mem M p' q' i n
      ≡ first_from test i n
  unfolding differs
  registers-are zero i p' q' e f l = refl
  registers-are (suc n) i p' q' e f l =
      let rest = registers-are n (suc i) (p' + 8) (q' + 8) (omega arith) (omega arith) (omega arith) in
      let c : Bool = (M / 2 ^ (i + 1) % 2 == 1) && not (mem p' == mem q') in
      let same : c ≡ ((M / 2 ^ (i + 1) % 2 == 1) && not (a i == b i)) =
      ap₂ (λ (x y : ℕ). (M / 2 ^ (i + 1) % 2 == 1) && not (mem x == mem y)) e f in
      let is : ((M / 2 ^ (i + 1) % 2 == 1) && not (a i == b i)) ≡ test i =
      sym (ap (λ (d : Bool). if d then (M / 2 ^ (i + 1) % 2 == 1) && not (a i == b i)
      else not (bit_and (bit_xor (a i) (b i)) (mask (i - 30)) == 0)) (lt-ltb i 30 (omega arith))) in
      either-if c i (first_register mem M (p' + 8) (q' + 8) (suc i) n) ∙ ap₂ (λ (d : Bool) (x : ℕ). if d then suc i
      else x) (same ∙ is) rest

  dwords-are : (xs : List ℕ) (j i p' q' : ℕ) → i ≡ 30 + j → p' ≡ p + 8 * i → q' ≡ q + 8 * i
      → ((l : ℕ) → slice_index rs (j + l) ≡ slice_index xs l) → first_dword mem p' q' i xs
      ≡ first_from test i (length xs)
  unfolding differs
  dwords-are [] j i p' q' o e f h = refl
  dwords-are (x ∷ xs) j i p' q' o e f h =
      let rest = dwords-are xs (suc j) (suc i) (p' + 8) (q' + 8) (omega arith) (omega arith) (omega arith)
      (λ l. let g : suc j + l ≡ j + suc l = omega arith in ap (slice_index rs) g ∙ h (suc l)) in
      let c : Bool = not (bit_and (bit_xor (mem p') (mem q')) (mem x) == 0) in
      let here : i - 30 ≡ j + 0 = omega arith in
      let this : x ≡ slice_index rs (i - 30) = sym (ap (slice_index rs) here ∙ h 0) in
      let same : c ≡ not (bit_and (bit_xor (a i) (b i)) (mask (i - 30)) == 0) =
      ap₂ (λ (y z : ℕ). not (bit_and (bit_xor (mem y) (mem z)) (mem x) == 0)) e f ∙ ap
      (λ (y : ℕ). not (bit_and (bit_xor (a i) (b i)) (mem y) == 0)) this in
      let is : not (bit_and (bit_xor (a i) (b i)) (mask (i - 30)) == 0) ≡ test i =
      sym (ap (λ (d : Bool). if d then (M / 2 ^ (i + 1) % 2 == 1) && not (a i == b i)
      else not (bit_and (bit_xor (a i) (b i)) (mask (i - 30)) == 0)) (le-ltb i 30 (omega arith))) in
      either-if c i (first_dword mem (p' + 8) (q' + 8) (suc i) xs) ∙ ap₂ (λ (d : Bool) (y : ℕ). if d then suc i
      else y) (same ∙ is) rest

  pub pass-is : first_of_pass mem M p q rs ≡ first_from test 0 (30 + length rs)
  pass-is =
      ap₂ either (registers-are 30 0 p q (omega arith) (omega arith) (omega arith))
      (dwords-are rs 0 30 (p + 240) (q + 240) (omega arith) (omega arith) (omega arith) (λ l. let e : 0 + l
      ≡ l = omega arith in ap (slice_index rs) e))
      ∙ sym (from-append test 30 (length rs) 0)

-- ---- passes

number-zero : (S : ℕ → Type 0) (k n v : ℕ) → IsNumber S k n v → v ≡ 0 → (i : ℕ) → i < n → S i
number-zero S k n v (agree h) e = h
number-zero S k n v (differ i l d h) e = absurd (omega arith)

record Some (S : ℕ → Type 0) (k n v : ℕ) : Type 0 where
  dword : ℕ
  below : dword < n
  other : S dword → ⊥
  least : (j : ℕ) → j < dword → S j
  is : v ≡ k * 2 ^ 32 + dword + 1

number-some : (S : ℕ → Type 0) (k n v : ℕ) → IsNumber S k n v → v ≢ 0 → Some S k n v
number-some S k n v (agree h) e = absurd (e refl)
number-some S k n v (differ i l d h) e = record { dword = i; below = l; other = d; least = h; is = refl }

-- the number of a pass
above-is : (k f : ℕ) → (if f == 0 then 0 else k * 2 ^ 32 + f) ≡ above k f
above-is k zero = refl
above-is k (suc f) = ap (λ (c : Bool). if c then 0 else k * 2 ^ 32 + suc f) (ne_eqb (suc f) 0 (λ e. omega arith))

module _ (mem : Table) (M p : ℕ) (rs : List ℕ) (K : ℕ) (fine : (j : ℕ) → j < length rs
    → IsMaskDword (mem (slice_index rs j))) where
  abbrev Same : ℕ → ℕ → Type 0
  Same k i = Agrees M (λ j. mem (slice_index rs j)) (λ l. mem (p + 8 * l)) (λ l. mem (p + 8192 * k + 8 * l)) i

  abbrev N : ℕ
  N = 30 + length rs

  abbrev F : ℕ → ℕ
  F k = first_of_pass mem M p (p + 8192 * k) rs

  pass-number : (k : ℕ) → IsNumber (Same k) k N (above k (F k))
  unfolding verdict_number
  pass-number k =
      subst (λ (f : ℕ). IsNumber (Same k) k N (above k f)) (sym (pass-is mem M p (p + 8192 * k) rs))
      (verdict_agrees k (length rs) M (λ j. mem (slice_index rs j)) (λ l. mem (p + 8 * l))
      (λ l. mem (p + 8192 * k + 8 * l)) fine)

  abbrev Before : ℕ → Type 0
  Before k = (k' i : ℕ) → 1 ≤ k' → k' < k → i < N → Same k' i

  before-next : (k : ℕ) → Before k → ((i : ℕ) → i < N → Same k i) → Before (suc k)
  before-next k f g k' i a l b = by (cases_lt k' k)
    where
      by : (k' < k) ⊎ (k ≤ k') → Same k' i
      by (inl d) = f k' i a d b
      by (inr d) = let e : k ≡ k' = omega arith in subst (λ (x : ℕ). Same x i) e (g i b)

  passes-are : (m k : ℕ) → 1 ≤ k → k + m ≡ K → Before k → IsNumberOfAll Same K N (verdict_from mem M p 8192 rs k m)
  passes-are zero k some sum before = all.agree (λ k' i a l b. before k' i a (omega arith) b)
  passes-are (suc m) k some sum before = by (above k (F k)) refl (passes-are m (suc k) (omega arith) (omega arith))
    where
      rest : ℕ
      rest = verdict_from mem M p 8192 rs (suc k) m

      by : (v : ℕ) → above k (F k) ≡ v → (Before (suc k) → IsNumberOfAll Same K N rest)
          → IsNumberOfAll Same K N (verdict_from mem M p 8192 rs k (suc m))
      by zero e f =
          let is : verdict_from mem M p 8192 rs k (suc m) ≡ rest =
          ap (λ (x : ℕ). either x rest) (above-is k (F k) ∙ e) in
          subst (IsNumberOfAll Same K N) (sym is)
          (f (before-next k before (number-zero (Same k) k N (above k (F k)) (pass-number k) e)))
      by (suc v) e f =
          let s = number-some (Same k) k N (above k (F k)) (pass-number k) (λ z. omega arith) in
          let is : verdict_from mem M p 8192 rs k (suc m) ≡ k * 2 ^ 32 + s.dword + 1 =
          ap (λ (x : ℕ). either x rest) (above-is k (F k) ∙ e) ∙ (sym e ∙ s.is) in
          subst (IsNumberOfAll Same K N) (sym is) (all.differ k s.dword some (omega arith) s.below s.other before
          s.least)

pub names_least_of_all : (cases : Cases) (h first masks bytes : ℕ) → NamesLeastOfAll cases h first masks bytes
names_least_of_all cases h first masks bytes mem two fine =
    let rs = mask_addresses cases h bytes in
    let len : length rs ≡ length (owned cases h) = length-map (owned cases h) (λ a. bytes + (a - windows_base)) in
    subst (λ (n : ℕ). IsNumberOfAll (SameIn mem cases h first masks bytes) cases.passes (30 + n)
    (verdict_of_all mem cases h first masks bytes)) len
    (passes-are mem (mem masks) first rs cases.passes (λ j l. fine j (omega (arith, len))) (cases.passes - 1) 1
    (omega arith) (omega arith) (λ k' i a b c. absurd (omega arith)))
