-- The first fault of a line, and the lines of a text.
use Rattle.std.proofs.Common.{◌≡◌, ◌≤◌, ◌<◌, ℕ, ◌+◌, Bool, true, false, not, eqb, ltb, nat_le, List, [], ◌∷◌, length}
use Rattle.std.proofs.Common.{drop, get_or, codes, Option, Some, None, Result, Ok, Err, refl, sym, ap, subst, ◌∙◌}
use Rattle.std.proofs.Common.{arith, inl, inr, length-drop}
use Rattle.std.specs.List.{prefix_len, list_all}
use Rattle.std.specs.Str.{bytes_eq}
use Rattle.std.proofs.lemmas.Bool.{cases_Bool, true≢false}
use Rattle.std.proofs.lemmas.Bool.Decides.{nat_tests}
use Rattle.std.proofs.lemmas.List.Folds.{list_all_at}
use Rattle.std.proofs.lemmas.List.Quantifiers.{position-Some}
use Rattle.std.proofs.lemmas.List.Sums.{prefix_len-le-length}
use Rattle.std.proofs.lemmas.Slice.Eq.{bytes_eq-Decides}
use Rattle.std.proofs.lemmas.Grind.{common_steps}
use Rattle.std.proofs.lemmas.Option.{same_Some}
use Rattle.std.proofs.Math.Bool.{not-not}
use Rattle.tm_base.specs.declared.limits.TheConstants.{WORD_BYTES}
use Rattle.tm_lex.specs.declared.token.TokenKind.{TokenKind}
use Rattle.tm_lex.specs.declared.token.Token.{Token}
use Rattle.tm_lex.specs.declared.token.LexFault.{LexFault}
use Rattle.tm_lex.specs.declared.token.LexFault.TheVariants.{BadByte, LongWord}
use Rattle.tm_lex.specs.Lexing.{Span, content, spans, bad_byte, long_part, first_fault, line_fault, line_tokens}
use Rattle.tm_lex.specs.Lexing.{lines_reading, before, unless_fault, as_words, as_raw, text_of, tokens_of}
use Rattle.tm_lex.specs.Tiling.{may_stand, WordsAt, RawAt, AreKinds, AreParts, is_bad_at, is_long_at, IsFine}
use Rattle.tm_lex.specs.Tiling.{IsFirstOf, HaveTokens, HaveFault, AreTokens, IsFirstFault, lines_of}
use Rattle.tm_lex.proofs.TilingLemmas.{all_pass, spans-are}

-- ---- bytes that may not stand there

stands_twice : (bs : List ℕ) → list_all (λ b. not (not (may_stand b))) bs ≡ list_all may_stand bs
stands_twice [] = refl
stands_twice (b ∷ bs) = rw (not-not (may_stand b), stands_twice bs)

all_stand : (bs : List ℕ) → bad_byte bs ≡ None → list_all may_stand bs ≡ true
all_stand bs h =
    let size = prefix_len-le-length (λ b. not (not (may_stand b))) bs in
    elim (cases_Bool (ltb (prefix_len (λ b. not (not (may_stand b))) bs) (length bs))) [
      | inl found ↦ let no : Some (prefix_len (λ b. not (not (may_stand b))) bs) ≡ None = rw found at h in absurd (cc)
      | inr all ↦ let whole : prefix_len (λ b. not (not (may_stand b))) bs ≡ length bs = grind (arith, nat_tests) in
          sym (stands_twice bs) ∙ all_pass (λ b. not (not (may_stand b))) bs whole
    ]

none_bad : (bs : List ℕ) → list_all may_stand bs ≡ true → (k : ℕ) → is_bad_at bs k ≡ false
none_bad bs all k =
    elim (cases_Bool (ltb k (length bs))) [
      | inl within ↦
          let below : k < length bs = grind (arith, nat_tests) in
          elim (cases_Bool (may_stand (get_or bs k 0))) [
            | inl stands ↦ rw (within, stands)
            | inr bad ↦ absurd (true≢false (sym all ∙ list_all_at may_stand bs k 0 below bad))
          ]
      | inr past ↦ rw past
    ]

bad_is : (bs : List ℕ) (p : ℕ) → bad_byte bs ≡ Some p → (is_bad_at bs p ≡ true)
    × ((k : ℕ) → k < p → is_bad_at bs k ≡ false)
bad_is bs p h =
    let first = position-Some (λ b. not (may_stand b)) bs p 0 h in (
      let within : ltb p (length bs) ≡ true = grind (arith, nat_tests, first.0) in rw (within, first.1),
      λ k below. let within : ltb k (length bs) ≡ true = grind (arith, nat_tests, first.0) in
          rw (within, first.2 k below),
    )

-- ---- parts that are too long

abbrev pub Part : Type 0
Part = TokenKind × Span

abbrev is_short : Part → Bool
is_short p = nat_le p.1.1 (p.1.0 + WORD_BYTES)

-- parts stand one behind the other, from a place to another one
abbrev pub Ascends : ℕ → ℕ → List Part → Type 0
Ascends i n [] = i ≤ n
Ascends i n (p ∷ ps) = (i ≤ p.1.0) × (p.1.0 < p.1.1) × Ascends p.1.1 n ps

words_ascend : (ss : List Span) (i n : ℕ) (bs : List ℕ) → n ≡ i + length bs → WordsAt ss i bs
    → Ascends i n (as_words ss)
words_ascend [] i n bs size h = omega arith
words_ascend (s ∷ ss) i n bs size h =
    let whole : length bs ≡ length h.0 + (length h.1 + length h.2) =
    ap length h.3.spelled ∙ grind (arith, common_steps) in (
      omega (arith, h.3.begins),
      omega (arith, h.3.ends, h.3.some),
      words_ascend ss s.1 n h.2 (omega (arith, h.3.begins, h.3.ends)) h.4,
    )

raw_ascend : (ss : List Span) (i n : ℕ) (bs : List ℕ) → n ≡ i + length bs → RawAt ss i bs → Ascends i n (as_raw ss)
raw_ascend [] i n bs size h = omega arith
raw_ascend (s ∷ []) i n bs size h = (h.behind, h.some, omega (arith, h.within))
raw_ascend (s ∷ t ∷ ss) i n bs size h = absurd h

kinds_ascend : (bs : List ℕ) (ss : List Span) (ps : List Part) → WordsAt ss 0 bs → AreKinds bs ss ps
    → Ascends 0 (length bs) ps
kinds_ascend bs [] ps words kinds = rw kinds (omega arith)
kinds_ascend bs (s ∷ ss) ps words kinds =
    let first = words_ascend (s ∷ ss) 0 (length bs) bs (omega arith) words in
    elim (cases_Bool (bytes_eq (text_of bs s) (codes "emit"))) [
      | inl here ↦
          let raw = kinds.1 ((bytes_eq-Decides (text_of bs s) (codes "emit")).0 here) in
          let whole : length bs ≡ length words.0 + (length words.1 + length words.2) =
          ap length words.3.spelled ∙ grind (arith, common_steps) in
          let size : length bs ≡ s.1 + length (drop s.1 bs) =
          omega (arith, words.3.begins, words.3.ends, length-drop s.1 bs) in
          rw raw.2 (first.0, first.1, raw_ascend raw.0 s.1 (length bs) (drop s.1 bs) size raw.1)
      | inr other ↦
          let plain = kinds.0 (λ same. true≢false (sym ((bytes_eq-Decides (text_of bs s) (codes "emit")).1 same) ∙
          other)) in
          rw plain first
    ]

pub parts-ascend : (bs : List ℕ) (ps : List Part) → AreParts bs ps → Ascends 0 (length bs) ps
parts-ascend bs ps h = kinds_ascend bs h.0 ps h.1 h.2

pub spans-ascend : (bs : List ℕ) → Ascends 0 (length bs) (spans bs)
spans-ascend bs = parts-ascend bs (spans bs) (spans-are bs)

not_before : (i n k : ℕ) (ps : List Part) → Ascends i n ps → k < i → is_long_at ps k ≡ false
not_before i n k [] h below = refl
not_before i n k (p ∷ ps) h below =
    let other : eqb p.1.0 k ≡ false = grind (arith, nat_tests, h.0) in
    rw other (not_before p.1.1 n k ps h.2 (omega (arith, h.0, h.1)))

all_short : (ps : List Part) → long_part ps ≡ None → list_all is_short ps ≡ true
all_short [] h = refl
all_short (p ∷ ps) h =
    elim (cases_Bool (ltb (p.1.0 + WORD_BYTES) p.1.1)) [
      | inl long ↦ let no : Some p.1.0 ≡ None = rw long at h in absurd (cc)
      | inr short ↦ let here : is_short p ≡ true = grind (arith, nat_tests) in rw here (all_short ps (rw short at h))
    ]

none_long : (ps : List Part) → list_all is_short ps ≡ true → (k : ℕ) → is_long_at ps k ≡ false
none_long [] h k = refl
none_long (p ∷ ps) h k =
    elim (cases_Bool (is_short p)) [
      | inl short ↦
          let here : ltb (p.1.0 + WORD_BYTES) p.1.1 ≡ false = grind (arith, nat_tests) in
          elim (cases_Bool (eqb p.1.0 k)) [
            | inl same ↦ rw (same, here) (none_long ps (rw short at h) k)
            | inr other ↦ rw other (none_long ps (rw short at h) k)
          ]
      | inr long ↦ let no : false ≡ true = rw long at h in absurd (cc)
    ]

long_is : (i n q : ℕ) (ps : List Part) → Ascends i n ps → long_part ps ≡ Some q → (is_long_at ps q ≡ true)
    × ((k : ℕ) → k < q → is_long_at ps k ≡ false)
long_is i n q [] h found = let no : None ≡ Some q = found in absurd (cc)
long_is i n q (p ∷ ps) h found =
    elim (cases_Bool (ltb (p.1.0 + WORD_BYTES) p.1.1)) [
      | inl long ↦
          let here : p.1.0 ≡ q = same_Some _ _ (rw long at found) in
          let same : eqb p.1.0 q ≡ true = grind (arith, nat_tests) in (
            rw (same, long),
            λ k below. (let other : eqb p.1.0 k ≡ false = grind (arith, nat_tests) in
                rw other (not_before p.1.1 n k ps h.2 (omega (arith, h.1)))),
          )
      | inr short ↦
          let more = long_is p.1.1 n q ps h.2 (rw short at found) in
          (further p ps q short more.0, λ k below. none_here p ps k short (more.1 k below))
    ] where
      none_here : (p : Part) (ps : List Part) (k : ℕ) → ltb (p.1.0 + WORD_BYTES) p.1.1 ≡ false → is_long_at ps k ≡ false
          → is_long_at (p ∷ ps) k ≡ false
      none_here p ps k short rest =
          elim (cases_Bool (eqb p.1.0 k)) [
            | inl same ↦ rw (same, short) rest
            | inr other ↦ rw other rest
          ]

      further : (p : Part) (ps : List Part) (k : ℕ) → ltb (p.1.0 + WORD_BYTES) p.1.1 ≡ false → is_long_at ps k ≡ true
          → is_long_at (p ∷ ps) k ≡ true
      further p ps k short rest =
          elim (cases_Bool (eqb p.1.0 k)) [
            | inl same ↦ rw (same, short) rest
            | inr other ↦ rw other rest
          ]

-- ---- the fault of a line

none_of_both : (n : ℕ) (bs : List ℕ) (bad long : Option ℕ) → first_fault n bs bad long ≡ None → (bad ≡ None)
    × (long ≡ None)
none_of_both n bs None None h = (refl, refl)
none_of_both n bs (Some p) None h = absurd (cc)
none_of_both n bs None (Some q) h = absurd (cc)
none_of_both n bs (Some p) (Some q) h =
    elim (cases_Bool (ltb q p)) [
      | inl less ↦ let no : Some (LongWord (record { line = n; col = q + 1 })) ≡ None = rw less at h in absurd (cc)
      | inr other ↦ let no : Some (BadByte (record { line = n; col = p + 1 }) (get_or bs p 0)) ≡ None = rw other at h in
          absurd (cc)
    ]

pub fine-line : (n : ℕ) (line : List ℕ) → line_fault n line ≡ None → IsFine (content line) (spans (content line))
unfolding line_fault
fine-line n line h =
    let none = none_of_both n (content line) _ _ h in
    (all_stand (content line) none.0, all_short (spans (content line)) none.1)

bad_first : (n : ℕ) (bs : List ℕ) (ps : List Part) (p : ℕ) → bad_byte bs ≡ Some p
    → ((k : ℕ) → k < p → is_long_at ps k ≡ false)
    → IsFirstOf n bs ps (BadByte (record { line = n; col = p + 1 }) (get_or bs p 0))
bad_first n bs ps p bad long = let here = bad_is bs p bad in
    (p, refl, refl, here.0, λ k below. (here.1 k below, long k below))

long_first : (n : ℕ) (bs : List ℕ) (ps : List Part) (q : ℕ) → Ascends 0 (length bs) ps → long_part ps ≡ Some q
    → ((k : ℕ) → k < q + 1 → is_bad_at bs k ≡ false)
    → IsFirstOf n bs ps (LongWord (record { line = n; col = q + 1 }))
long_first n bs ps q up long bad = let here = long_is 0 (length bs) q ps up long in
    (q, refl, here.0, bad q (omega arith), λ k below. (bad k (omega arith), here.1 k below))

first_of_both : (n : ℕ) (bs : List ℕ) (ps : List Part) (e : LexFault) (bad long : Option ℕ) → Ascends 0 (length bs) ps
    → bad_byte bs ≡ bad → long_part ps ≡ long
    → first_fault n bs bad long ≡ Some e → IsFirstOf n bs ps e
first_of_both n bs ps e None None up bad long h = absurd (cc)
first_of_both n bs ps e (Some p) None up bad long h =
    subst (λ f. IsFirstOf n bs ps f) (same_Some _ _ h)
    (bad_first n bs ps p bad (λ k _. none_long ps (all_short ps long) k))
first_of_both n bs ps e None (Some q) up bad long h =
    subst (λ f. IsFirstOf n bs ps f) (same_Some _ _ h)
    (long_first n bs ps q up long (λ k _. none_bad bs (all_stand bs bad) k))
first_of_both n bs ps e (Some p) (Some q) up bad long h =
    let at_p = bad_is bs p bad in
    let at_q = long_is 0 (length bs) q ps up long in
    elim (cases_Bool (ltb q p)) [
      | inl less ↦
          let below : q < p = grind (arith, nat_tests) in
          subst (λ f. IsFirstOf n bs ps f) (same_Some _ _ (rw less at h))
          (long_first n bs ps q up long (λ k before. at_p.1 k (omega arith)))
      | inr other ↦
          let above : p ≤ q = grind (arith, nat_tests) in
          subst (λ f. IsFirstOf n bs ps f) (same_Some _ _ (rw other at h))
          (bad_first n bs ps p bad (λ k before. at_q.1 k (omega arith)))
    ]

pub fault-line : (n : ℕ) (line : List ℕ) (e : LexFault) → line_fault n line ≡ Some e
    → IsFirstOf n (content line) (spans (content line)) e
unfolding line_fault
fault-line n line e h =
    first_of_both n (content line) (spans (content line)) e _ _ (spans-ascend (content line)) refl refl h

-- ---- the lines of a text

same_Ok : (r : Result (List Token) LexFault) (x y : List Token) → r ≡ Ok x → r ≡ Ok y → x ≡ y
same_Ok r x y h k = cc

same_Err : (r : Result (List Token) LexFault) (x y : LexFault) → r ≡ Err x → r ≡ Err y → x ≡ y
same_Err r x y h k = cc

next_tokens : (n from : ℕ) (line : List ℕ) (rest : List (List ℕ)) (ts : List Token) (f : Option LexFault)
    (r : Result (List Token) LexFault)
    → line_fault n line ≡ f → unless_fault f (before (line_tokens n from line) r) ≡ Ok ts
    → ((more : List Token) → r ≡ Ok more → HaveTokens (n + 1) (from + length line + 1) rest more)
    → HaveTokens n from (line ∷ rest) ts
unfolding line_tokens
next_tokens n from line rest ts (Some e) r fault h next = absurd (cc)
next_tokens n from line rest ts None (Err e) fault h next = absurd (cc)
next_tokens n from line rest ts None (Ok more) fault h next = (
  spans (content line),
  more,
  spans-are (content line),
  fine-line n line fault,
  sym (same_Ok _ _ _ refl h),
  next more refl,
)

tokens_are : (lines : List (List ℕ)) (n from : ℕ) (ts : List Token) → lines_reading n from lines ≡ Ok ts
    → HaveTokens n from lines ts
unfolding lines_reading
tokens_are [] n from ts h = sym (same_Ok _ _ _ refl h)
tokens_are (line ∷ rest) n from ts h =
    next_tokens n from line rest ts _ _ refl h (λ more. tokens_are rest (n + 1) (from + length line + 1) more)

next_fault : (n from : ℕ) (line : List ℕ) (rest : List (List ℕ)) (e : LexFault) (f : Option LexFault)
    (r : Result (List Token) LexFault)
    → line_fault n line ≡ f → unless_fault f (before (line_tokens n from line) r) ≡ Err e
    → ((d : LexFault) → r ≡ Err d → HaveFault (n + 1) rest d) → HaveFault n (line ∷ rest) e
next_fault n from line rest e (Some d) r fault h next = (
  spans (content line),
  spans-are (content line),
  inl (fault-line n line e (fault ∙ ap Some (same_Err _ _ _ refl h))),
)
next_fault n from line rest e None (Ok more) fault h next = absurd (cc)
next_fault n from line rest e None (Err d) fault h next = (
  spans (content line),
  spans-are (content line),
  inr (fine-line n line fault, subst (λ f. HaveFault (n + 1) rest f) (same_Err _ _ _ refl h) (next d refl)),
)

fault_is : (lines : List (List ℕ)) (n from : ℕ) (e : LexFault) → lines_reading n from lines ≡ Err e
    → HaveFault n lines e
unfolding lines_reading
fault_is [] n from e h = absurd (cc)
fault_is (line ∷ rest) n from e h =
    next_fault n from line rest e _ _ refl h (λ d. fault_is rest (n + 1) (from + length line + 1) d)

pub tokens-are : (text : List ℕ) (ts : List Token) → tokens_of text ≡ Ok ts → AreTokens text ts
unfolding tokens_of AreTokens
tokens-are text ts h = tokens_are (lines_of text) 1 0 ts h

pub fault-is : (text : List ℕ) (e : LexFault) → tokens_of text ≡ Err e → IsFirstFault text e
unfolding tokens_of IsFirstFault
fault-is text e h = fault_is (lines_of text) 1 0 e h
