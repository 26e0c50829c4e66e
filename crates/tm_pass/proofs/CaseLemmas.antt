-- The cases of one hart's text, one after another.
use Rattle.std.proofs.Common.{◌≡◌, ℕ, zero, suc, ◌+◌, ◌*◌, ◌<◌, ◌≤◌, List, [], ◌∷◌, ◌++◌, length, map, drop, get_or}
use Rattle.std.proofs.Common.{refl, sym, ap, ◌∙◌, arith, append_assoc, append-nil, drop-cons}
use Rattle.std.specs.Prelude.{slice_get, Some}
use Rattle.std.proofs.lemmas.List.{drop_all, get_or-map}
use Rattle.std.proofs.lemmas.Option.{slice_get_read}
use Rattle.tm_base.specs.Lists.{count_from}
use Rattle.tm_base.proofs.ListLemmas.{all-at}
use Rattle.tm_plan_cases.specs.declared.cases.Case.{Case}
use Rattle.tm_plan_cases.specs.declared.cases.Cases.{Cases}
use Rattle.tm_plan_cases.specs.declared.cases.Stream.{Stream}
use Rattle.tm_plan_cases.specs.Shaped.{AreShaped, IsShapedCase}
use Rattle.tm_pass_text.specs.Words.{Blocks, case_size, case_words, cases_words, streams_of, words_at}
use Rattle.tm_pass_text.specs.Hart.{blocks_of}
use Rattle.tm_pass_place.proofs.Heads.{stream}
use Rattle.tm_pass_place.proofs.Sizes.{count}

count-more : (f : ℕ → ℕ) (a n : ℕ) → map f (count_from a (suc n)) ≡ map f (count_from a n) ++ f (a + n) ∷ []
count-more f a zero = let g : a ≡ a + 0 = omega arith in ap (λ (k : ℕ). f k ∷ []) g
count-more f a (suc n) =
    let g : suc a + n ≡ a + suc n = omega arith in
    ap (λ (l : List ℕ). f a ∷ l) (count-more f (suc a) n) ∙ ap (λ (k : ℕ). f a
    ∷ (map f (count_from (suc a) n) ++ f k ∷ [])) g

-- one more number
pub count-on : (f : ℕ → ℕ) (n m : ℕ) → m ≡ suc n → map f (count_from 0 m) ≡ map f (count_from 0 n) ++ f n ∷ []
count-on f n m e =
    let g : 0 + n ≡ n = omega arith in
    ap (λ (k : ℕ). map f (count_from 0 k)) e ∙ (count-more f 0 n ∙ ap (λ (k : ℕ). map f (count_from 0 n) ++ f k ∷ []) g)

module _ (cases : Cases) (shaped : AreShaped cases) (h : ℕ) (number : h < cases.harts) where
  abbrev C : ℕ
  C = length cases.cases

  abbrev B : Blocks
  B = blocks_of cases h

  abbrev ss : List (List ℕ)
  ss = streams_of cases h

  abbrev here : ℕ → List ℕ
  here c = stream cases shaped h number c

  abbrev size : ℕ → ℕ
  size c = case_size B c (length (here c))

  -- a stream that was read of the cases
  pub stream-read : (c : ℕ) (xs : List Case) (case : Case) (ys : List Stream) (s : Stream) → c < C → xs ≡ cases.cases
      → case ≡ get_or xs c case → ys ≡ case.streams → s ≡ get_or ys h s → s.words ≡ here c
  stream-read c xs case ys s few ex ec ey es =
      let at : slice_get cases.cases c ≡ Some case =
      slice_get_read cases.cases C c case refl few (ec ∙ ap (λ (l : List Case). get_or l c case) ex) in
      let many : length case.streams ≡ cases.harts =
      (all-at (IsShapedCase cases) cases.cases c case shaped.each at).streams in
      let mine : slice_get case.streams h ≡ Some s =
      slice_get_read case.streams (length case.streams) h s refl (omega (arith, many))
      (es ∙ ap (λ (l : List Stream). get_or l h s) ey) in
      let mapped = get_or-map (λ (k : Case). words_at (slice_get k.streams h)) cases.cases c case [] few in
      let found : get_or cases.cases c case ≡ case = sym (ec ∙ ap (λ (l : List Case). get_or l c case) ex) in
      sym (mapped ∙ (ap (λ (k : Case). words_at (slice_get k.streams h)) found ∙ ap words_at mine))

  -- the words of the next case, and of those behind it
  pub words-next : (c n : ℕ) → n ≡ suc c → c < C → (at' barrier : ℕ) (o w : List ℕ)
      → w ≡ o ++ case_words B cases.passes c (here c) at' barrier
      → w ++ cases_words B cases.passes n (drop n ss) (at' + 4 * size c) barrier
      ≡ o ++ cases_words B cases.passes c (drop c ss) at' barrier
  words-next c n e few at' barrier o w is =
      let one = case_words B cases.passes c (here c) at' barrier in
      let behind = cases_words B cases.passes (suc c) (drop (suc c) ss) (at' + 4 * size c) barrier in
      let within : c < length ss = omega (arith, count cases shaped h) in
      let split : drop c ss ≡ here c ∷ drop (suc c) ss = drop-cons ss c [] within in
      ap (λ (k : ℕ). w ++ cases_words B cases.passes k (drop k ss) (at' + 4 * size c) barrier) e
      ∙ (ap (λ (l : List ℕ). l ++ behind) is
      ∙ (append_assoc o one behind
      ∙ ap (λ (l : List (List ℕ)). o ++ cases_words B cases.passes c l at' barrier) (sym split)))

  -- behind the last case nothing is left
  pub words-end : (c : ℕ) → C ≤ c → (at' barrier : ℕ) (o : List ℕ)
      → o ++ cases_words B cases.passes c (drop c ss) at' barrier ≡ o
  words-end c l at' barrier o =
      let none : drop c ss ≡ [] = drop_all c ss (omega (arith, count cases shaped h)) in
      ap (λ (rest : List (List ℕ)). o ++ cases_words B cases.passes c rest at' barrier) none ∙ append-nil o
