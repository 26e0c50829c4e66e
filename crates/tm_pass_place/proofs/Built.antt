-- The built program of shaped cases is a program.
use Rattle.std.proofs.Common.{◌≡◌, ℕ, zero, suc, ◌+◌, ◌*◌, ◌<◌, ◌≤◌, List, [], ◌++◌, length, map, flat_map, refl, sym}
use Rattle.std.proofs.Common.{ap, ◌∙◌, arith, length-append}
use Rattle.std.specs.Prelude.{slice_index, slice_index_or}
use Rattle.std.proofs.lemmas.List.{get_or_append_left, get_or-append-add}
use Rattle.std.proofs.Math.Nat.{mul-le-mul_left}
use Rattle.tm_plan_cases.specs.declared.cases.Cases.{Cases}
use Rattle.tm_plan_cases.specs.declared.masks.Masks.{Masks}
use Rattle.tm_plan_map.specs.Map.{text_base}
use Rattle.tm_plan_cases.specs.Layout.{HaveRegisters, table_size}
use Rattle.tm_plan_cases.specs.Shaped.{AreShaped, MasksFit, IsProgram}
use Rattle.tm_plan_cases.proofs.TableLemmas.{tables-stand}
use Rattle.tm_base.specs.Lists.{count_from}
use Rattle.tm_plan_owned.proofs.Reach.{length-line}
use Rattle.tm_barrier.specs.Words.{prepare, meet, barrier}
use Rattle.tm_pass_text.specs.Words.{hart_size, hart_words, streams_of, text_words}
use Rattle.tm_pass_text.proofs.Stands.{length-hart}
use Rattle.tm_pass_text.specs.Hart.{blocks_of, IsBuilt}
use Rattle.tm_pass_place.specs.Built.{start_in, end_in, halt_in, exit_in, marks_in, built, CasesAreBuilt}
use Rattle.tm_pass_place.proofs.Sizes.{short-hart}

-- ---- lists by number

map-at : (f : ℕ → ℕ) (a n k : ℕ) → k < n → slice_index (map f (count_from a n)) k ≡ f (a + k)
map-at f a zero k l = absurd (omega arith)
map-at f a (suc n) zero l = let e : a ≡ a + 0 = omega arith in ap f e
map-at f a (suc n) (suc k) l = let e : suc a + k ≡ a + suc k = omega arith in
    map-at f (suc a) n k (omega arith) ∙ ap f e

module _ (f : ℕ → ℕ → ℕ) (C : ℕ) where
  abbrev row : ℕ → List ℕ
  row h = map (f h) (count_from 0 C)

  grid-at : (a n k c : ℕ) → k < n → c < C → slice_index (flat_map row (count_from a n)) (k * C + c) ≡ f (a + k) c
  grid-at a zero k c l m = absurd (omega arith)
  grid-at a (suc n) zero c l m =
      let e : 0 * C + c ≡ c = omega arith in
      let g : a ≡ a + 0 = omega arith in
      let rest = flat_map row (count_from (suc a) n) in
      ap (slice_index (row a ++ rest)) e
      ∙ (get_or_append_left (row a) rest 0 c (omega (arith, length-line (f a) 0 C)) ∙
      (map-at (f a) 0 C c m ∙ (ap (f a) (omega arith) ∙ ap (λ (h : ℕ). f h c) g)))
  grid-at a (suc n) (suc k) c l m =
      let rest = flat_map row (count_from (suc a) n) in
      let times : suc k * C ≡ C + k * C = next k in
      let e : suc k * C + c ≡ length (row a) + (k * C + c) = omega (arith, times, length-line (f a) 0 C) in
      let g : suc a + k ≡ a + suc k = omega arith in
      ap (slice_index (row a ++ rest)) e ∙ (get_or-append-add (row a) rest (k * C + c) 0 ∙
      (grid-at (suc a) n k c (omega arith) m ∙ ap (λ (h : ℕ). f h c) g))
    where
      next : (k : ℕ) → suc k * C ≡ C + k * C
      next k = grind arith

  length-grid : (a n : ℕ) → length (flat_map row (count_from a n)) ≡ n * C
  length-grid a zero = omega arith
  length-grid a (suc n) = length-append (row a) (flat_map row (count_from (suc a) n)) ∙ omega (
    arith,
    next n,
    length-line (f a) 0 C,
    length-grid (suc a) n,
  )
    where
      next : (k : ℕ) → suc k * C ≡ C + k * C
      next k = grind arith

-- ---- the text

module _ (cases : Cases) (masks : Masks) (shaped : AreShaped cases) (fit : MasksFit cases masks)
    (regs : HaveRegisters cases) where
  text-short : (h n base : ℕ) → h + n ≤ cases.harts → length (text_words (blocks_of cases) cases h n base) ≤ n * 33792
  text-short h zero base l = omega arith
  text-short h (suc n) base l =
      let one = hart_words (blocks_of cases h) cases.passes (streams_of cases h) h base in
      let on = base + 4 * hart_size (blocks_of cases h) (streams_of cases h) in
      omega (
        arith,
        length-append one (text_words (blocks_of cases) cases (suc h) n on),
        length-hart (blocks_of cases h) cases.passes (streams_of cases h) h base,
        short-hart cases shaped h (omega arith),
        text-short (suc h) n on (omega arith),
      )

  text-some : (h n base : ℕ) → 1 ≤ n → 1 ≤ length (text_words (blocks_of cases) cases h n base)
  text-some h zero base l = absurd (omega arith)
  text-some h (suc n) base l =
      let one = hart_words (blocks_of cases h) cases.passes (streams_of cases h) h base in
      let on = base + 4 * hart_size (blocks_of cases h) (streams_of cases h) in
      omega (
        arith,
        length-append one (text_words (blocks_of cases) cases (suc h) n on),
        length-hart (blocks_of cases h) cases.passes (streams_of cases h) h base,
      )

  some-barrier : (h n : ℕ) → 1 ≤ length (barrier h n)
  unfolding barrier meet prepare
  some-barrier h n = omega arith

  is-program : IsProgram (built cases masks)
  unfolding built marks_in
  is-program =
      let a = shaped.harts in
      let b = shaped.count in
      let tables = (tables-stand cases masks shaped fit regs).whole in
      let m : table_size cases.harts ≤ 14336 = omega arith in
      let most : length cases.cases * table_size cases.harts ≤ length cases.cases * 14336 =
      mul-le-mul_left (length cases.cases) m in
      record {
        cases = shaped;
        masks = fit;
        starts = length-grid (start_in cases) (length cases.cases) 0 cases.harts;
        ends = length-grid (end_in cases) (length cases.cases) 0 cases.harts;
        exits = length-line (exit_in cases) 0 cases.harts;
        halts = length-line (halt_in cases) 0 cases.harts;
        text = (
          text-some 0 cases.harts text_base a.0,
          (let t = text-short 0 cases.harts text_base (omega arith) in
              omega arith),
        );
        tables = omega (arith, tables);
      }

  is-built : IsBuilt (built cases masks)
  unfolding built marks_in
  is-built =
      let zero-on : (h : ℕ) → 0 + h ≡ h = λ h. omega arith in
      record {
        text = refl;
        some = λ h l. some-barrier h cases.harts;
        starts = λ h c l m. grid-at (start_in cases) (length cases.cases) 0 cases.harts h c l m ∙ ap
            (λ (g : ℕ). start_in cases g c) (zero-on h);
        ends = λ h c l m.
            let e = grid-at (end_in cases) (length cases.cases) 0 cases.harts h c l m ∙ ap (λ (g : ℕ). end_in cases g c)
            (zero-on h) in
            let s = grid-at (start_in cases) (length cases.cases) 0 cases.harts h c l m ∙ ap
            (λ (g : ℕ). start_in cases g c) (zero-on h) in
            e ∙ ap (λ (a : ℕ). a + 4 * length (slice_index_or (streams_of cases h) c [])) (sym s);
        halts = λ h l. map-at (halt_in cases) 0 cases.harts h l ∙ ap (halt_in cases) (zero-on h);
        exits = λ h l.
            let e = map-at (exit_in cases) 0 cases.harts h l ∙ ap (exit_in cases) (zero-on h) in
            let s = map-at (halt_in cases) 0 cases.harts h l ∙ ap (halt_in cases) (zero-on h) in
            e ∙ ap (λ (a : ℕ). a + 4 * length (blocks_of cases h).barrier) (sym s);
      }

pub cases-built : (cases : Cases) (masks : Masks) → CasesAreBuilt cases masks
cases-built cases masks shaped fit regs = (is-program cases masks shaped fit regs, is-built cases masks shaped fit regs)
