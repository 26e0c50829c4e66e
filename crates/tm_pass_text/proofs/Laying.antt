-- The text of a program has its marks and its streams where they belong.
use Rattle.std.proofs.Common.{◌≡◌, ℕ, zero, suc, ◌+◌, ◌-◌, ◌*◌, ◌<◌, ◌≤◌, List, [], ◌∷◌, ◌++◌, length}
use Rattle.std.proofs.Common.{Some, refl, sym, ap, ◌∙◌, subst, arith, length-append}
use Rattle.std.specs.Prelude.{slice_get, slice_index_or, map}
use Rattle.std.proofs.lemmas.List.{length-map}
use Rattle.std.proofs.lemmas.Option.{slice_get_within}
use Rattle.tm_base.proofs.ListLemmas.{get-some}
use Rattle.tm_table.specs.declared.instr.Instr.{Instr}
use Rattle.tm_plan_cases.specs.declared.cases.Case.{Case}
use Rattle.tm_plan_cases.specs.declared.cases.Cases.{Cases}
use Rattle.tm_plan_cases.specs.declared.cases.Stream.{Stream}
use Rattle.tm_plan_cases.specs.declared.program.Program.{Program}
use Rattle.tm_plan_map.specs.Map.{text_base, private_at}
use Rattle.tm_world.specs.Place.{harts, case_count, start_of, halt_of, word_at}
use Rattle.tm_plan_cases.specs.Streams.{stream_in}
use Rattle.tm_world.specs.Whole.{Laid}
use Rattle.tm_world.proofs.Streams.{case-of}
use Rattle.tm_runs.proofs.Worlds.{text-at}
use Rattle.tm_table.specs.Words.{words_of}
use Rattle.tm_blocks_base.specs.Blocks.{constant}
use Rattle.tm_blocks_base.proofs.Lengths.{length-words_of, length-constant}
use Rattle.tm_pass_text.specs.Spread.{Spread}
use Rattle.tm_pass_text.specs.Words.{Blocks, gate, before_size, behind_size, case_size, case_before, case_behind}
use Rattle.tm_pass_text.specs.Words.{back_words, case_words, cases_words, skip, opening_size, hart_size, hart_words}
use Rattle.tm_pass_text.specs.Words.{words_at, streams_of, text_words, place_of, base_of, head_of, IsText, TextIsLaid}
use Rattle.tm_pass_text.proofs.Stands.{Stands, stands-at, stands-left, stands-right, length-before, length-cases}
use Rattle.tm_pass_text.proofs.Stands.{case-stands, hart-stands}
use Rattle.tm_pass_text.proofs.Spreads.{all-apart}

-- ---- lists

map-index : {A B : Type 0} (f : A → B) (d : B) (xs : List A) (k : ℕ) (x : A) → slice_get xs k ≡ Some x
    → slice_index_or (map f xs) k d ≡ f x
map-index f d [] k x e = cc
map-index f d (y ∷ xs) zero x e = let s : y ≡ x = cc in ap f s
map-index f d (y ∷ xs) (suc k) x e = map-index f d xs k x e

-- ---- streams

pub stream-words : (cases : Cases) (c h : ℕ) (s : Stream) → stream_in cases c h ≡ Some s
    → slice_index_or (streams_of cases h) c [] ≡ s.words
stream-words cases c h s e =
    let r = case-of cases c h s e in
    map-index (λ (case : Case). words_at (slice_get case.streams h)) [] cases.cases c r.0 r.1 ∙ ap words_at r.2

-- the cases behind the first k, one more
pub skip-next : (b : Blocks) (c : ℕ) (ss : List (List ℕ)) (k : ℕ) → k < length ss
    → skip b c ss (suc k) ≡ skip b c ss k + case_size b (c + k) (length (slice_index_or ss k []))
skip-next b c [] k l = absurd (omega arith)
skip-next b c (s ∷ ss) zero l = let e : c ≡ c + 0 = omega arith in
    omega (arith, ap (λ (d : ℕ). case_size b d (length s)) e)
skip-next b c (s ∷ ss) (suc k) l =
    let e : suc c + k ≡ c + suc k = omega arith in
    let i = skip-next b (suc c) ss k (omega arith) in
    omega (arith, ap (λ (d : ℕ). case_size b d (length (slice_index_or ss k []))) e)

module _ (p : Program) (blocks : ℕ → Blocks) (is : IsText p blocks) (some : (h c : ℕ) → h < harts p → c < case_count p
    → 1 ≤ length (slice_index_or (streams_of p.cases h) c [])) where
  abbrev C : ℕ
  C = case_count p

  abbrev ss : ℕ → List (List ℕ)
  ss h = streams_of p.cases h

  abbrev stream : (h c : ℕ) → List ℕ
  stream h c = slice_index_or (ss h) c []

  count : (h : ℕ) → length (ss h) ≡ C
  count h = length-map p.cases.cases (λ (case : Case). words_at (slice_get case.streams h))

  -- ---- places

  -- in words
  abbrev pub head : (h c : ℕ) → ℕ
  head h c = place_of blocks p.cases h + (opening_size + skip (blocks h) 0 (ss h) c)

  abbrev pub barrier : ℕ → ℕ
  barrier h = base_of blocks p.cases h + 4 * (opening_size + skip (blocks h) 0 (ss h) (length (ss h)) + 1)

  next : (h c : ℕ) → h < harts p → c < C → head h (suc c)
      ≡ head h c + case_size (blocks h) (0 + c) (length (stream h c))
  next h c l m = let e = skip-next (blocks h) 0 (ss h) c (omega (arith, count h, m)) in omega (arith, e)

  pub spread : Spread p (base_of blocks p.cases) (head_of blocks p.cases)
  spread = record {
    first = omega arith;
    begin = λ h l. omega arith;
    start = λ h c l m. omega (arith, is.starts h c l m);
    some = λ h c l m. omega (arith, is.ends h c l m, some h c l m);
    end = λ h c l m. let e : 0 + c ≡ c = omega arith in
        omega (
          arith,
          next h c l m,
          is.starts h c l m,
          is.ends h c l m,
          ap (before_size (blocks h)) e,
          ap (behind_size (blocks h)) e,
        );
    halt = λ h l. is.halts h l;
    exit = λ h l. omega (arith, is.exits h l, is.some h l);
    next = λ h l. let e : skip (blocks h) 0 (ss h) (length (ss h)) ≡ skip (blocks h) 0 (ss h) C =
        ap (skip (blocks h) 0 (ss h)) (count h) in omega (arith, is.exits h l, is.halts h l, e);
  }

  -- ---- words

  text-stands : Stands p.text 0 p.text
  text-stands j l = let e : 0 + j ≡ j = omega arith in ap (slice_get p.text) e

  pub hart-at : (h : ℕ) → h < harts p → Stands p.text (place_of blocks p.cases h)
      (hart_words (blocks h) p.cases.passes (ss h) h (base_of blocks p.cases h))
  hart-at h l =
      let b : text_base ≡ base_of blocks p.cases 0 = omega arith in
      let t : Stands p.text 0 (text_words blocks p.cases 0 (harts p) (base_of blocks p.cases 0)) =
      subst (λ (a : ℕ). Stands p.text 0 (text_words blocks p.cases 0 (harts p) a)) b
      (subst (λ (ws : List ℕ). Stands p.text 0 ws) is.text text-stands) in
      let e : 0 + h ≡ h = omega arith in
      subst (λ (g : ℕ). Stands p.text (place_of blocks p.cases g)
      (hart_words (blocks g) p.cases.passes (ss g) g (base_of blocks p.cases g))) e
      (hart-stands p.text blocks p.cases (harts p) 0 t h l)

  -- a word that stands in the text
  pub word-at : (k : ℕ) (ys : List ℕ) → Stands p.text k ys → (j : ℕ) → j < length ys
      → word_at p (text_base + 4 * (k + j)) ≡ slice_get ys j
  word-at k ys s j l =
      let x = get-some ys j l in
      text-at p (k + j) (slice_get_within p.text (k + j) x.0 (s j l ∙ x.1)) ∙ s j l

  abbrev opens : ℕ → List Instr
  opens h = gate h (4 * (hart_size (blocks h) (ss h) - 2)) ++ constant 31 (private_at h)

  abbrev cases-at : ℕ → List ℕ
  cases-at h = cases_words (blocks h) p.cases.passes 0 (ss h) (base_of blocks p.cases h + 4 * opening_size) (barrier h)

  length-opens : (h : ℕ) → length (words_of (opens h)) ≡ 14
  length-opens h = let n = 4 * (hart_size (blocks h) (ss h) - 2) in
      omega (
        arith,
        length-words_of (opens h),
        length-append (gate h n) (constant 31 (private_at h)),
        length-constant 31 (private_at h),
      )

  -- behind the opening
  behind-opening : (h : ℕ) → h < harts p → Stands p.text (place_of blocks p.cases h + 14) (cases-at h
      ++ (0x0000006F ∷ words_of (blocks h).barrier))
  unfolding hart_words
  behind-opening h l =
      stands-right p.text (words_of (opens h)) (cases-at h ++ (0x0000006F ∷ words_of (blocks h).barrier))
      (place_of blocks p.cases h) (place_of blocks p.cases h + 14)
      (ap (λ (n : ℕ). place_of blocks p.cases h + n) (sym (length-opens h))) (hart-at h l)

  pub opening-at : (h : ℕ) → h < harts p → Stands p.text (place_of blocks p.cases h) (words_of (opens h))
  unfolding hart_words
  opening-at h l = stands-left p.text (words_of (opens h)) (cases-at h ++ (0x0000006F ∷ words_of (blocks h).barrier))
      (place_of blocks p.cases h) (hart-at h l)

  -- the halt word, and the barrier behind it
  pub rest-at : (h : ℕ) → h < harts p → Stands p.text (head h C) (0x0000006F ∷ words_of (blocks h).barrier)
  rest-at h l =
      let e : length (cases-at h) ≡ skip (blocks h) 0 (ss h) C =
      length-cases (blocks h) p.cases.passes 0 (ss h) (base_of blocks p.cases h + 4 * opening_size) (barrier h) ∙ ap
      (skip (blocks h) 0 (ss h)) (count h) in
      stands-right p.text (cases-at h) (0x0000006F ∷ words_of (blocks h).barrier) (place_of blocks p.cases h + 14)
      (head h C) (omega (arith, e)) (behind-opening h l)

  -- the words of a case
  pub case-at : (h c : ℕ) → h < harts p → c < C
      → Stands p.text (head h c) (case_words (blocks h) p.cases.passes c (stream h c) (head_of blocks p.cases h c)
      (barrier h))
  case-at h c l m =
      let s = case-stands p.text (blocks h) p.cases.passes 0 (ss h) (base_of blocks p.cases h + 4 * opening_size)
      (barrier h) (place_of blocks p.cases h + 14) c (omega (arith, count h, m))
      (stands-left p.text (cases-at h) (0x0000006F ∷ words_of (blocks h).barrier) (place_of blocks p.cases h + 14)
      (behind-opening h l)) in
      let e : 0 + c ≡ c = omega arith in
      let f : base_of blocks p.cases h + 4 * opening_size + 4 * skip (blocks h) 0 (ss h) c
      ≡ head_of blocks p.cases h c = omega arith in
      let g : place_of blocks p.cases h + 14 + skip (blocks h) 0 (ss h) c ≡ head h c = omega arith in
      let t = subst (λ (d : ℕ). Stands p.text (place_of blocks p.cases h + 14 + skip (blocks h) 0 (ss h) c)
      (case_words (blocks h) p.cases.passes d (stream h c) (base_of blocks p.cases h + 4 * opening_size + 4
      * skip (blocks h) 0 (ss h) c) (barrier h))) e s in
      let u = subst (λ (a : ℕ). Stands p.text (place_of blocks p.cases h + 14 + skip (blocks h) 0 (ss h) c)
      (case_words (blocks h) p.cases.passes c (stream h c) a (barrier h))) f t in
      stands-at p.text (case_words (blocks h) p.cases.passes c (stream h c) (head_of blocks p.cases h c) (barrier h))
      (place_of blocks p.cases h + 14 + skip (blocks h) 0 (ss h) c) (head h c) g u

  -- how far the barrier is from the two calls
  abbrev pub far-before : (h c : ℕ) → ℕ
  far-before h c = barrier h - (head_of blocks p.cases h c + 4 * (1 + length ((blocks h).first c)))

  abbrev pub far-behind : (h c : ℕ) → ℕ
  far-behind h c =
      barrier h - (head_of blocks p.cases h c + 4 * (before_size (blocks h) c + length (stream h c)
      + length (blocks h).save))

  abbrev pub before : (h c : ℕ) → List Instr
  before h c = case_before (blocks h) c (far-before h c)

  abbrev pub behind : (h c : ℕ) → List Instr
  behind h c = case_behind (blocks h) p.cases.passes c (4 * back_words (blocks h) c (length (stream h c)))
      (far-behind h c)

  pub before-at : (h c : ℕ) → h < harts p → c < C → Stands p.text (head h c) (words_of (before h c))
  unfolding case_words
  before-at h c l m = stands-left p.text (words_of (before h c)) (stream h c ++ words_of (behind h c)) (head h c)
      (case-at h c l m)

  stream-behind : (h c : ℕ) → h < harts p → c < C → Stands p.text (head h c + before_size (blocks h) c) (stream h c
      ++ words_of (behind h c))
  unfolding case_words
  stream-behind h c l m =
      let e : length (words_of (before h c)) ≡ before_size (blocks h) c =
      length-words_of (before h c) ∙ length-before (blocks h) c (far-before h c) in
      stands-right p.text (words_of (before h c)) (stream h c ++ words_of (behind h c)) (head h c)
      (head h c + before_size (blocks h) c) (ap (λ (n : ℕ). head h c + n) (sym e)) (case-at h c l m)

  pub stream-at : (h c : ℕ) → h < harts p → c < C → Stands p.text (head h c + before_size (blocks h) c) (stream h c)
  stream-at h c l m = stands-left p.text (stream h c) (words_of (behind h c)) (head h c + before_size (blocks h) c)
      (stream-behind h c l m)

  pub behind-at : (h c : ℕ) → h < harts p → c < C
      → Stands p.text (head h c + before_size (blocks h) c + length (stream h c)) (words_of (behind h c))
  behind-at h c l m = stands-right p.text (stream h c) (words_of (behind h c)) (head h c + before_size (blocks h) c)
      (head h c + before_size (blocks h) c + length (stream h c)) refl (stream-behind h c l m)

  -- ---- laid

  few : (c h : ℕ) (s : Stream) → stream_in p.cases c h ≡ Some s → c < C
  few c h s e = let r = case-of p.cases c h s e in slice_get_within p.cases.cases c r.0 r.1

  pub laid : Laid p
  laid =
      let a = all-apart p (base_of blocks p.cases) (head_of blocks p.cases) spread in
      record {
        apart = a.apart;
        entry = a.entry;
        outside = a.outside;
        streams = a.streams;
        halt = λ h l.
            let e : halt_of p h ≡ text_base + 4 * (head h C + 0) = omega (arith, is.halts h l) in
            ap (word_at p) e ∙ word-at (head h C) (0x0000006F ∷ words_of (blocks h).barrier) (rest-at h l) 0
            (omega arith);
        long = λ h c s l e. is.ends h c l (few c h s e) ∙ ap (λ (ws : List ℕ). start_of p h c + 4 * length ws)
            (stream-words p.cases c h s e);
        words = λ h c i s l e m.
            let n = few c h s e in
            let w = stream-words p.cases c h s e in
            let k = head h c + before_size (blocks h) c in
            let place : start_of p h c + 4 * i ≡ text_base + 4 * (k + i) = omega (arith, is.starts h c l n) in
            ap (word_at p) place ∙ (word-at k (stream h c) (stream-at h c l n) i (omega (arith, m, ap length w)) ∙ ap
            (λ (ws : List ℕ). slice_get ws i) w);
      }

pub text-laid : (p : Program) → TextIsLaid p
text-laid p blocks is some = laid p blocks is some
