use Rattle.std.proofs.Common.{◌≡◌, ◌≢◌, ◌≤◌, ◌<◌, ℕ, ◌+◌, ◌-◌, Bool, true, false, not, eqb, List, [], ◌∷◌, ◌++◌}
use Rattle.std.proofs.Common.{length, drop, get_or, reverse, codes, refl, sym, ap, ◌∙◌, arith, inl, inr}
use Rattle.std.specs.List.{prefix_len, suffix_len, list_all}
use Rattle.std.specs.Str.{bytes_eq}
use Rattle.std.proofs.lemmas.Bool.{cases_Bool, cases_lt, true≢false}
use Rattle.std.proofs.lemmas.List.{get_or-reverse, length-reverse, nil_from_length}
use Rattle.std.proofs.lemmas.List.Sums.{prefix_len_passes, prefix_len_stops, prefix_len-le-length, suffix_len-le-length}
use Rattle.std.proofs.lemmas.Slice.Eq.{bytes_eq-Decides}
use Rattle.std.proofs.lemmas.Bool.Decides.{nat_tests}
use Rattle.tm_lex.specs.Lexing.{is_word, is_separator, words, word_byte, trimmed, Span, spans, with_kinds, text_of}
use Rattle.tm_lex.specs.Tiling.{WordsAt, begins_no_word, RawAt, AreParts, AreKinds}

-- a byte of a gap before what words follow
gap_byte : (i b : ℕ) (bs : List ℕ) → is_word b ≡ false → (ss : List Span) → WordsAt ss (i + 1) bs
    → WordsAt ss i (b ∷ bs)
gap_byte i b bs other [] h = rw other h
gap_byte i b bs other (s ∷ ss) h = (
  b ∷ h.0,
  h.1,
  h.2,
  record {
    spelled = ap (λ xs. b ∷ xs) h.3.spelled;
    begins = omega (arith, h.3.begins);
    ends = h.3.ends;
    some = h.3.some;
    gap_is = rw other h.3.gap_is;
    word_is = h.3.word_is;
    apart = h.3.apart;
  },
  h.4,
)

apart_gap : (bs : List ℕ) → list_all (λ b. not (is_word b)) bs ≡ true → begins_no_word bs ≡ true
apart_gap [] h = refl
apart_gap (b ∷ bs) h = elim (cases_Bool (is_word b)) [
  | inl here ↦ let no : false ≡ true = rw here at h in absurd (cc)
  | inr other ↦ rw other
]

begins_gap : (gap x : List ℕ) → 0 < length gap → list_all (λ b. not (is_word b)) gap ≡ true → begins_no_word (gap ++ x)
    ≡ true
begins_gap [] x some h = absurd (omega arith)
begins_gap (b ∷ gap) x some h = apart_gap (b ∷ []) (elim (cases_Bool (is_word b)) [
  | inl here ↦ let no : false ≡ true = rw here at h in absurd (cc)
  | inr other ↦ rw other
])

-- a byte of a word by itself before what doesn't go on with it
word_alone : (i b : ℕ) (bs : List ℕ) → is_word b ≡ true → begins_no_word bs ≡ true → (ss : List Span)
    → WordsAt ss (i + 1) bs
    → WordsAt ((i, i + 1) ∷ ss) i (b ∷ bs)
word_alone i b bs here apart ss h = (
  [],
  b ∷ [],
  bs,
  record {
    spelled = refl;
    begins = omega arith;
    ends = omega arith;
    some = omega arith;
    gap_is = refl;
    word_is = rw here;
    apart = apart;
  },
  h,
)

-- a byte of a word before what words follow: it goes on with the word that begins behind it
word_before : (i b : ℕ) (bs : List ℕ) → is_word b ≡ true → (ss : List Span) → WordsAt ss (i + 1) bs
    → WordsAt (word_byte i ss) i (b ∷ bs)
word_before i b bs here [] h = word_alone i b bs here (apart_gap bs h) [] h
word_before i b bs here (s ∷ ss) h =
    elim (cases_Bool (eqb s.0 (i + 1))) [
      | inl joined ↦
          let at : s.0 ≡ i + 1 = grind (arith, nat_tests) in
          let none = nil_from_length h.0 (omega (arith, h.3.begins)) in
          rw joined (
            [],
            b ∷ h.1,
            h.2,
            record {
              spelled = ap (λ xs. b ∷ xs) (rw none at h.3.spelled);
              begins = omega arith;
              ends = omega (arith, h.3.ends);
              some = omega arith;
              gap_is = refl;
              word_is = rw here h.3.word_is;
              apart = h.3.apart;
            },
            h.4,
          )
      | inr other ↦
          let some : 0 < length h.0 = (let ne : s.0 ≢ i + 1 = grind (arith, nat_tests) in omega (arith, h.3.begins)) in
          rw other (word_alone i b bs here (rw h.3.spelled (begins_gap h.0 (h.1 ++ h.2) some h.3.gap_is)) (s ∷ ss) h)
    ]

-- `words` are the words
pub words-are : (i : ℕ) (bs : List ℕ) → WordsAt (words i bs) i bs
unfolding words
words-are i [] = refl
words-are i (b ∷ bs) =
    elim (cases_Bool (is_word b)) [
      | inl here ↦ rw here (word_before i b bs here (words (i + 1) bs) (words-are (i + 1) bs))
      | inr other ↦ rw other (gap_byte i b bs other (words (i + 1) bs) (words-are (i + 1) bs))
    ]

pub all_pass : (p : ℕ → Bool) (bs : List ℕ) → prefix_len p bs ≡ length bs → list_all p bs ≡ true
all_pass p [] h = refl
all_pass p (b ∷ bs) h =
    elim (cases_Bool (p b)) [
      | inl here ↦ let more : 1 + prefix_len p bs ≡ length (b ∷ bs) = rw here at h in
          rw here (all_pass p bs (omega arith))
      | inr other ↦ let none : 0 ≡ length (b ∷ bs) = rw other at h in absurd (omega arith)
    ]

-- `trimmed` is the part without the separators at its ends
module _ (bs : List ℕ) (i : ℕ) where
  front_of : (k : ℕ) → k < prefix_len is_separator bs → is_separator (get_or bs k 0) ≡ true
  front_of k h = prefix_len_passes is_separator bs k 0 h

  back_of : (k : ℕ) → length bs - suffix_len is_separator bs ≤ k → k < length bs → is_separator (get_or bs k 0) ≡ true
  back_of k from below =
      let j : length bs - 1 - k < prefix_len is_separator (reverse bs) = omega arith in
      let here : length bs - 1 - (length bs - 1 - k) ≡ k = omega arith in
      let within : length bs - 1 - k < length bs = omega arith in
      rw here at (rw (get_or-reverse bs (length bs - 1 - k) 0 within) at
      (prefix_len_passes is_separator (reverse bs) (length bs - 1 - k) 0 j))

  last_of : suffix_len is_separator bs < length bs
      → is_separator (get_or bs (length bs - 1 - suffix_len is_separator bs) 0) ≡ false
  last_of below =
      let within : prefix_len is_separator (reverse bs) < length (reverse bs) = omega (arith, length-reverse bs) in
      rw (get_or-reverse bs (suffix_len is_separator bs) 0 below) at
      (prefix_len_stops is_separator (reverse bs) 0 within)

  apart_ends : is_separator (get_or bs (prefix_len is_separator bs) 0) ≡ false → prefix_len is_separator bs < length bs
      → prefix_len is_separator bs < length bs - suffix_len is_separator bs
  apart_ends stop below = elim (cases_lt (prefix_len is_separator bs) (length bs - suffix_len is_separator bs)) [
    | inl lt ↦ lt
    | inr le ↦ (let sep = back_of (prefix_len is_separator bs) le below in absurd (true≢false (sym sep ∙ stop)))
  ]

  pub trimmed-is : RawAt (trimmed i bs) i bs
  trimmed-is =
      elim (cases_Bool (eqb (prefix_len is_separator bs) (length bs))) [
        | inl all ↦ rw all (all_pass is_separator bs (grind (arith, nat_tests)))
        | inr some ↦
            let ne : prefix_len is_separator bs ≢ length bs = grind (arith, nat_tests) in
            let below : prefix_len is_separator bs < length bs = omega (arith, prefix_len-le-length is_separator bs) in
            let stop = prefix_len_stops is_separator bs 0 below in
            let size = suffix_len-le-length is_separator bs in
            let meet : prefix_len is_separator bs < length bs - suffix_len is_separator bs = apart_ends stop below in
            rw some (record {
              behind = omega arith;
              some = omega arith;
              within = omega arith;
              front = λ k h. front_of k (omega arith);
              back = λ k h b. back_of k (omega arith) b;
              first = (let same : i + prefix_len is_separator bs - i ≡ prefix_len is_separator bs = omega arith in
                  rw same stop);
              last = (let same : i + length bs - suffix_len is_separator bs - i - 1
                  ≡ length bs - 1 - suffix_len is_separator bs = omega arith in rw same (last_of (omega arith)));
            })
      ]

-- the parts of a line are its parts
pub spans-are : (bs : List ℕ) → AreParts bs (spans bs)
unfolding spans
spans-are bs = (words 0 bs, words-are 0 bs, kinds_are bs (words 0 bs)) where
  kinds_are : (bs : List ℕ) (ss : List Span) → AreKinds bs ss (with_kinds bs ss)
  kinds_are bs [] = refl
  kinds_are bs (s ∷ ss) =
      elim (cases_Bool (bytes_eq (text_of bs s) (codes "emit"))) [
        | inl here ↦ (
          λ other. absurd (other ((bytes_eq-Decides (text_of bs s) (codes "emit")).0 here)),
          λ _. (trimmed s.1 (drop s.1 bs), trimmed-is (drop s.1 bs) s.1, rw here),
        )
        | inr other ↦ (
          λ _. rw other,
          λ here. absurd (true≢false (sym ((bytes_eq-Decides (text_of bs s) (codes "emit")).1 here) ∙ other)),
        )
      ]
