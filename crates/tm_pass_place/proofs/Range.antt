-- The words and marks of built programs fit into their types.
use Rattle.std.proofs.Common.{◌≡◌, ℕ, zero, suc, ◌+◌, ◌-◌, ◌*◌, ◌%◌, ◌^◌, ◌<◌, ◌≤◌, List, [], ◌∷◌, ◌++◌, length, map}
use Rattle.std.proofs.Common.{drop, sym, subst, arith, drop-cons}
use Rattle.std.specs.Prelude.{slice_index, slice_index_or}
use Rattle.std.proofs.lemmas.List.{drop_all}
use Rattle.tm_barrier.proofs.Meet.{length-barrier}
use Rattle.tm_world.proofs.Streams.{case-of, stream-of}
use Rattle.tm_table.specs.declared.instr.Instr.{Instr}
use Rattle.tm_table.proofs.Decoding.{word-lt}
use Rattle.tm_base.specs.Lists.{count_from}
use Rattle.tm_plan_cases.specs.declared.cases.Cases.{Cases}
use Rattle.tm_plan_cases.specs.declared.masks.Masks.{Masks}
use Rattle.tm_plan_cases.specs.Shaped.{AreShaped}
use Rattle.tm_plan_map.specs.Map.{text_base, private_at}
use Rattle.tm_table.specs.Words.{words_of}
use Rattle.tm_blocks_base.specs.Blocks.{constant}
use Rattle.tm_pass_text.specs.Words.{Blocks, back_words, base_of, before_size, case_before, case_behind, case_size}
use Rattle.tm_pass_text.specs.Words.{case_words, cases_words, gate, hart_size, hart_words, opening_size, skip}
use Rattle.tm_pass_text.specs.Words.{streams_of, text_words}
use Rattle.tm_pass_text.proofs.Laying.{stream-words}
use Rattle.tm_pass_text.proofs.Pairs.{Each, each-all, each-append, each-flat}
use Rattle.tm_pass_text.specs.Hart.{blocks_of}
use Rattle.tm_pass_place.specs.Built.{by_case, start_in, end_in, exit_in, halt_in, marks_in, built}
use Rattle.tm_pass_place.specs.Range.{HaveWords, IsInRange, BuiltIsInRange}
use Rattle.tm_pass_place.proofs.Fits.{Fitting, Fit}
use Rattle.tm_pass_place.proofs.Sizes.{count, fits-barrier, fits-before, fits-behind, fits-opening}
use Rattle.tm_pass_place.proofs.Sizes.{short-hart}
use Rattle.tm_pass_place.proofs.Heads.{base-low, ends-low, few-words, heads-low}

-- a word of 32 bits
abbrev Low : ℕ → Type 0
Low w = w < 2 ^ 32

low-at : (xs : List ℕ) → Each Low xs → (k : ℕ) → slice_index xs k < 2 ^ 32
low-at [] e k = omega arith
low-at (x ∷ xs) e zero = e.0
low-at (x ∷ xs) e (suc k) = low-at xs e.1 k

at-low : (xs : List ℕ) → ((k : ℕ) → slice_index xs k < 2 ^ 32) → Each Low xs
at-low [] f = tt
at-low (x ∷ xs) f = (f 0, at-low xs (λ k. f (suc k)))

-- the words of instructions that fit
low-words : (is : List Instr) → Fitting is → Each Low (words_of is)
low-words [] f = tt
low-words (i ∷ is) (Fit x f) = (word-lt i x, low-words is f)

-- what holds of each number
each-count : (P : ℕ → Type 0) (f : ℕ → ℕ) (n a : ℕ) → ((c : ℕ) → a ≤ c → c < a + n → P (f c))
    → Each P (map f (count_from a n))
each-count P f zero a e = tt
each-count P f (suc n) a e =
    (e a (omega arith) (omega arith), each-count P f n (suc a) (λ c l m. e c (omega arith) (omega arith)))

module _ (cases : Cases) (shaped : AreShaped cases) (typed : HaveWords cases) where
  abbrev C : ℕ
  C = length cases.cases

  abbrev B : ℕ → Blocks
  B = blocks_of cases

  abbrev ss : ℕ → List (List ℕ)
  ss h = streams_of cases h

  low-stream : (h c : ℕ) → h < cases.harts → c < C → Each Low (slice_index_or (ss h) c [])
  low-stream h c l m =
      let (s, e) = stream-of cases c h shaped m l in
      let (case, f, g) = case-of cases c h s e in
      subst (Each Low) (sym (stream-words cases c h s e)) (at-low s.words (typed c h case s f g))

  -- ---- the text

  module _ (h : ℕ) (number : h < cases.harts) where
    low-case : (c : ℕ) → c < C → (at' bar : ℕ) → at' % 4 ≡ 0 → bar % 4 ≡ 0 → bar ≤ at' + 524288
        → Each Low (case_words (B h) cases.passes c (slice_index_or (ss h) c []) at' bar)
    unfolding case_words
    low-case c few at' bar e f near =
        let stream = slice_index_or (ss h) c [] in
        let one = bar - (at' + 4 * (1 + length ((B h).first c))) in
        let two = bar - (at' + 4 * (before_size (B h) c + length stream + length (B h).save)) in
        let before = case_before (B h) c one in
        let behind = case_behind (B h) cases.passes c (4 * back_words (B h) c (length stream)) two in
        each-append Low (words_of before) (stream ++ words_of behind)
        (low-words before (fits-before cases shaped h c number few one (omega arith) (omega arith)))
        (each-append Low stream (words_of behind) (low-stream h c number few)
        (low-words behind (fits-behind cases shaped h c number few (length stream) two
        (few-words cases shaped h number c few) (omega arith) (omega arith))))

    -- k cases from case c on
    low-cases : (k c : ℕ) → c + k ≡ C → (at' bar : ℕ) → at' % 4 ≡ 0 → bar % 4 ≡ 0 → bar ≤ at' + 524288
        → Each Low (cases_words (B h) cases.passes c (drop c (ss h)) at' bar)
    low-cases zero c e at' bar f g near =
        let none : drop c (ss h) ≡ [] = drop_all c (ss h) (omega (arith, count cases shaped h)) in
        subst (λ (rest : List (List ℕ)). Each Low (cases_words (B h) cases.passes c rest at' bar)) (sym none) tt
    low-cases (suc k) c e at' bar f g near =
        let stream = slice_index_or (ss h) c [] in
        let within : c < length (ss h) = omega (arith, count cases shaped h) in
        let on = at' + 4 * case_size (B h) c (length stream) in
        subst (λ (rest : List (List ℕ)). Each Low (cases_words (B h) cases.passes c rest at' bar))
        (sym (drop-cons (ss h) c [] within))
        (each-append Low (case_words (B h) cases.passes c stream at' bar)
        (cases_words (B h) cases.passes (suc c) (drop (suc c) (ss h)) on bar)
        (low-case c (omega arith) at' bar f g near)
        (low-cases k (suc c) (omega arith) on bar (omega arith) g (omega arith)))

    low-hart : (base : ℕ) → base % 4 ≡ 0 → Each Low (hart_words (B h) cases.passes (ss h) h base)
    unfolding hart_words
    low-hart base e =
        let size = hart_size (B h) (ss h) in
        let opens = gate h (4 * (size - 2)) ++ constant 31 (private_at h) in
        let bar = base + 4 * (opening_size + skip (B h) 0 (ss h) (length (ss h)) + 1) in
        let all = cases_words (B h) cases.passes 0 (ss h) (base + 4 * opening_size) bar in
        let ending = 0x0000006F ∷ words_of (B h).barrier in
        each-append Low (words_of opens) (all ++ ending) (low-words opens (fits-opening cases shaped h number))
        (each-append Low all ending (low-cases C 0 (omega arith) (base + 4 * opening_size) bar (omega arith)
        (omega arith) (omega (arith, short-hart cases shaped h number)))
        (omega arith, low-words (B h).barrier (fits-barrier cases shaped h number)))

  low-text : (n h base : ℕ) → h + n ≤ cases.harts → base % 4 ≡ 0 → Each Low (text_words B cases h n base)
  low-text zero h base l e = tt
  low-text (suc n) h base l e =
      let on = base + 4 * hart_size (B h) (ss h) in
      each-append Low (hart_words (B h) cases.passes (ss h) h base) (text_words B cases (suc h) n on)
      (low-hart h (omega arith) base e) (low-text n (suc h) on (omega arith) (omega arith))

  -- ---- the marks

  abbrev Small : ℕ → Type 0
  Small a = a < 2 ^ 64

  halt-low : (h : ℕ) → h < cases.harts → halt_in cases h < 2 ^ 63
  unfolding text_base
  halt-low h l =
      let harts = shaped.harts in
      let count' = shaped.count in
      omega (
        arith,
        base-low cases shaped h (omega arith),
        heads-low cases shaped h l (base_of B cases h) C (omega arith),
      )

  exit-low : (h : ℕ) → h < cases.harts → exit_in cases h < 2 ^ 64
  exit-low h l = let harts = shaped.harts in omega (arith, halt-low h l, length-barrier h cases.harts)

  end-low : (h c : ℕ) → h < cases.harts → c < C → end_in cases h c < 2 ^ 64
  end-low h c l m = omega (arith, ends-low cases shaped h l (base_of B cases h) c m, halt-low h l)

  each-case : (f : ℕ → ℕ → ℕ) → ((h c : ℕ) → h < cases.harts → c < C → f h c < 2 ^ 64) → Each Small (by_case cases f)
  each-case f low = each-flat Small (λ h. map (f h) (count_from 0 C)) cases.harts 0
      (λ h _ l. each-count Small (f h) C 0 (λ c _ m. low h c (omega arith) (omega arith)))

  each-hart : (f : ℕ → ℕ) → ((h : ℕ) → h < cases.harts → f h < 2 ^ 64) → Each Small (map f (count_from 0 cases.harts))
  each-hart f low = each-count Small f cases.harts 0 (λ h _ l. low h (omega arith))

  pub in-range : (masks : Masks) → IsInRange (built cases masks)
  unfolding built marks_in text_base
  in-range masks = record {
    text = low-at (text_words B cases 0 cases.harts text_base)
        (low-text cases.harts 0 text_base (omega arith) (omega arith));
    starts = each-all Small (by_case cases (start_in cases))
        (each-case (start_in cases) (λ h c l m. omega (arith, end-low h c l m)));
    ends = each-all Small (by_case cases (end_in cases)) (each-case (end_in cases) end-low);
    exits = each-all Small (map (exit_in cases) (count_from 0 cases.harts)) (each-hart (exit_in cases) exit-low);
    halts = each-all Small (map (halt_in cases) (count_from 0 cases.harts))
        (each-hart (halt_in cases) (λ h l. omega (arith, halt-low h l)));
  }

pub built-in_range : (cases : Cases) (masks : Masks) → BuiltIsInRange cases masks
built-in_range cases masks shaped typed = in-range cases shaped typed masks
