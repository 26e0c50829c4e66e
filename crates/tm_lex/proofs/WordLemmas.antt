use Rattle.std.proofs.Common.{◌≡◌, ◌≢◌, ◌≤◌, ◌<◌, ℕ, zero, suc, ◌+◌, ◌-◌, true, false, not, eqb, List, [], ◌∷◌}
use Rattle.std.proofs.Common.{length, take, drop, refl, sym, ◌∙◌, arith, inl, inr, ◌⊎◌}
use Rattle.std.specs.List.{prefix_len, slice_split}
use Rattle.std.proofs.lemmas.Bool.{cases_Bool}
use Rattle.std.proofs.lemmas.Bool.Decides.{nat_tests}
use Rattle.std.proofs.lemmas.List.{drop-drop}
use Rattle.tm_base.proofs.PrintLemmas.{drop_whole}
use Rattle.tm_lex.specs.Lexing.{is_word, words, word_byte}

-- bytes that are no word's are passed over
pub words-gap : (i g : ℕ) (bs : List ℕ) → g ≤ prefix_len (λ b. not (is_word b)) bs
    → words i bs ≡ words (i + g) (drop g bs)
unfolding words
words-gap i zero bs h = let same : i + 0 ≡ i = omega arith in rw same
words-gap i (suc g) [] h = absurd (omega arith)
words-gap i (suc g) (b ∷ bs) h =
    elim (cases_Bool (is_word b)) [
      | inl here ↦ let none : suc g ≤ 0 = rw here at h in absurd (omega arith)
      | inr other ↦
          let more : suc g ≤ 1 + prefix_len (λ b. not (is_word b)) bs = rw other at h in
          let next : i + suc g ≡ i + 1 + g = omega arith in
          rw (other, next) (words-gap (i + 1) g bs (omega arith))
    ]

-- a word byte never joins a word that begins further on
apart_from : (i j : ℕ) (ss : List (ℕ × ℕ)) → i + 1 < j → word_byte i (word_byte j ss) ≡ (i, i + 1) ∷ word_byte j ss
apart_from i j [] h = let other : eqb j (i + 1) ≡ false = grind (arith, nat_tests) in rw other
apart_from i j (s ∷ rest) h =
    let other : eqb j (i + 1) ≡ false = grind (arith, nat_tests) in
    elim (cases_Bool (eqb s.0 (j + 1))) [
      | inl joined ↦ rw (joined, other)
      | inr alone ↦ rw (alone, other)
    ]

apart : (i j : ℕ) (bs : List ℕ) → i + 1 < j → word_byte i (words j bs) ≡ (i, i + 1) ∷ words j bs
unfolding words
apart i j [] h = refl
apart i j (b ∷ bs) h =
    elim (cases_Bool (is_word b)) [
      | inl here ↦ rw here (apart_from i j (words (j + 1) bs) h)
      | inr other ↦ rw other (apart i (j + 1) bs (omega arith))
    ]

-- a word byte alone
alone : (i : ℕ) (bs : List ℕ) → prefix_len is_word bs ≡ 0 → word_byte i (words (i + 1) bs)
    ≡ (i, i + 1) ∷ words (i + 1) bs
unfolding words
alone i [] h = refl
alone i (b ∷ bs) h =
    elim (cases_Bool (is_word b)) [
      | inl here ↦ let none : 1 + prefix_len is_word bs ≡ 0 = rw here at h in absurd (omega arith)
      | inr other ↦ rw other (apart i (i + 1 + 1) bs (omega arith))
    ]

joined : (i e : ℕ) (rest : List (ℕ × ℕ)) → word_byte i ((i + 1, e) ∷ rest) ≡ (i, e) ∷ rest
joined i e rest = let same : eqb (i + 1) (i + 1) ≡ true = grind (arith, nat_tests) in rw same

none_or_some : (n : ℕ) → (n ≡ 0) ⊎ (0 < n)
none_or_some zero = inl refl
none_or_some (suc n) = inr (omega arith)

-- word bytes in a row are one word
pub words-run : (i : ℕ) (bs : List ℕ) → 0 < prefix_len is_word bs
    → words i bs ≡ (i, i + prefix_len is_word bs) ∷ words (i + prefix_len is_word bs) (drop (prefix_len is_word bs) bs)
unfolding words
words-run i [] h = absurd (omega arith)
words-run i (b ∷ bs) h =
    elim (cases_Bool (is_word b)) [
      | inl here ↦
          let one : (1 + prefix_len is_word bs) ≡ suc (prefix_len is_word bs) = omega arith in
          elim (none_or_some (prefix_len is_word bs)) [
            | inl none ↦ rw (here, none) (alone i bs none)
            | inr some ↦
                let next : i + 1 + prefix_len is_word bs ≡ i + (1 + prefix_len is_word bs) = omega arith in
                rw (here, words-run (i + 1) bs some, joined, next, one)
          ]
      | inr other ↦ let none : 0 < 0 = rw other at h in absurd (omega arith)
    ]

-- the first line of what is left of a text, and the lines after it
pub split-last : (bs : List ℕ) → prefix_len (λ b. not (eqb b 10)) bs ≡ length bs → slice_split (λ b. eqb b 10) bs
    ≡ bs ∷ []
split-last [] h = refl
split-last (b ∷ bs) h =
    elim (cases_Bool (eqb b 10)) [
      | inl here ↦ let none : 0 ≡ length (b ∷ bs) = rw here at h in absurd (omega arith)
      | inr other ↦ let more : 1 + prefix_len (λ b. not (eqb b 10)) bs ≡ length (b ∷ bs) = rw other at h in
          rw (other, split-last bs (omega arith))
    ]

pub split-more : (bs : List ℕ) (n : ℕ) → prefix_len (λ b. not (eqb b 10)) bs ≡ n → n < length bs
    → slice_split (λ b. eqb b 10) bs ≡ take n bs ∷ slice_split (λ b. eqb b 10) (drop (n + 1) bs)
split-more [] n h below = absurd (omega arith)
split-more (b ∷ bs) zero h below =
    elim (cases_Bool (eqb b 10)) [
      | inl here ↦ rw here
      | inr other ↦ let more : 1 + prefix_len (λ b. not (eqb b 10)) bs ≡ 0 = rw other at h in absurd (omega arith)
    ]
split-more (b ∷ bs) (suc n) h below =
    elim (cases_Bool (eqb b 10)) [
      | inl here ↦ let none : 0 ≡ suc n = rw here at h in absurd (omega arith)
      | inr other ↦
          let more : 1 + prefix_len (λ b. not (eqb b 10)) bs ≡ suc n = rw other at h in
          let count : suc n + 1 ≡ suc (n + 1) = omega arith in
          rw (other, split-more bs n (omega arith) (omega arith), count)
    ]

-- where nothing follows the gap, there is no word
none_after : (i : ℕ) (bs : List ℕ) → prefix_len is_word (drop (prefix_len (λ b. not (is_word b)) bs) bs) ≡ 0
    → words i bs ≡ []
unfolding words
none_after i [] h = refl
none_after i (b ∷ bs) h =
    elim (cases_Bool (is_word b)) [
      | inl here ↦
          let some : 1 + prefix_len is_word bs ≡ 0 = rw (here, here) at h in absurd (omega arith)
      | inr other ↦
          let one : 1 + prefix_len (λ b. not (is_word b)) bs ≡ suc (prefix_len (λ b. not (is_word b)) bs) =
          omega arith in
          let more = rw one at (rw other at h) in
          rw other (none_after (i + 1) bs more)
    ]

pub next-none : (bs : List ℕ) (at g n : ℕ) → g ≡ prefix_len (λ b. not (is_word b)) (take (length bs - at) (drop at bs))
    → n ≡ prefix_len is_word (take (length bs - (at + g)) (drop (at + g) bs)) → n ≡ 0 → words at (drop at bs) ≡ []
next-none bs at g n gap run none =
    let whole = drop_whole bs at (length bs) refl in
    let rest = drop_whole bs (at + g) (length bs) refl in
    let gap' : g ≡ prefix_len (λ b. not (is_word b)) (drop at bs) = rw whole at gap in
    let split : drop (at + g) bs ≡ drop g (drop at bs) = sym (drop-drop g at bs) in
    let run' : 0 ≡ prefix_len is_word (drop g (drop at bs)) = sym none ∙ run ∙ rw (rest, split) in
    none_after at (drop at bs) (rw (← gap') (sym run'))

pub next-some : (bs : List ℕ) (at g n : ℕ) → g ≡ prefix_len (λ b. not (is_word b)) (take (length bs - at) (drop at bs))
    → n ≡ prefix_len is_word (take (length bs - (at + g)) (drop (at + g) bs)) → n ≢ 0
    → words at (drop at bs) ≡ (at + g, at + g + n) ∷ words (at + g + n) (drop (at + g + n) bs)
next-some bs at g n gap run some =
    let whole = drop_whole bs at (length bs) refl in
    let rest = drop_whole bs (at + g) (length bs) refl in
    let gap' : g ≡ prefix_len (λ b. not (is_word b)) (drop at bs) = rw whole at gap in
    let split : drop (at + g) bs ≡ drop g (drop at bs) = sym (drop-drop g at bs) in
    let run' : n ≡ prefix_len is_word (drop (at + g) bs) = rw rest at run in
    let after : drop (at + g + n) bs ≡ drop n (drop (at + g) bs) = sym (drop-drop n (at + g) bs) in
    let here : 0 < prefix_len is_word (drop (at + g) bs) = omega (arith, run', some) in
    words-gap at g (drop at bs) (omega (arith, gap')) ∙ rw (← split)
    (words-run (at + g) (drop (at + g) bs) here ∙ rw (← run', after))
