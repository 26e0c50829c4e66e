use Rattle.std.proofs.Common.{◌≡◌, ◌≤◌, ◌<◌, ℕ, ◌+◌, ◌-◌, not, eqb, List, [], ◌++◌, length, take, drop, Some, None}
use Rattle.std.proofs.Common.{Result, Ok, Err, refl, sym, ap, ◌∙◌, arith, inl, inr, ◌⊎◌, append-nil, append_assoc}
use Rattle.std.proofs.Common.{length-take-le, length-drop, drop-drop}
use Rattle.std.specs.List.{prefix_len, slice_split}
use Rattle.std.proofs.lemmas.List.Sums.{prefix_len-le-length}
use Rattle.std.proofs.Math.Seq.{take-length}
use Rattle.tm_base.proofs.PrintLemmas.{drop_whole}
use Rattle.tm_lex.specs.declared.token.Token.{Token}
use Rattle.tm_lex.specs.declared.token.LexFault.{LexFault}
use Rattle.tm_lex.specs.Lexing.{line_fault, line_tokens, lines_reading, before, tokens_of}
use Rattle.tm_lex.proofs.WordLemmas.{split-last, split-more}

pub before-before : (a b : List Token) (r : Result (List Token) LexFault) → before a (before b r) ≡ before (a ++ b) r
before-before a b (Ok ts) = ap Ok (sym (append_assoc a b ts))
before-before a b (Err e) = refl

before_none : (r : Result (List Token) LexFault) → before [] r ≡ r
before_none (Ok ts) = refl
before_none (Err e) = refl

-- nothing is read yet
pub start-same : (text : List ℕ) (ts : List Token) → ts ≡ []
    → before ts (lines_reading 1 0 (slice_split (λ b. eqb b 10) text)) ≡ tokens_of text
unfolding tokens_of
start-same text ts none = rw none (before_none _)

first_line : (bs : List ℕ) (n : ℕ) → prefix_len (λ b. not (eqb b 10)) bs ≡ n → n ≡ length bs ⊎ n < length bs
first_line bs n len = let within = prefix_len-le-length (λ b. not (eqb b 10)) bs in grind (arith, within, len)

-- the first line has a fault
pub reading-fault : (number from n : ℕ) (bs : List ℕ) (e : LexFault) → prefix_len (λ b. not (eqb b 10)) bs ≡ n
    → line_fault number (take n bs) ≡ Some e
    → lines_reading number from (slice_split (λ b. eqb b 10) bs) ≡ Err e
unfolding lines_reading
reading-fault number from n bs e len fault =
    elim (first_line bs n len) [
      | inl last ↦ let all : take n bs ≡ bs = rw last (take-length bs) in
          rw (split-last bs (len ∙ last), ← all) (rw fault)
      | inr more ↦ rw (split-more bs n len more) (rw fault)
    ]

-- the first line is the last
pub reading-last : (number from n : ℕ) (bs : List ℕ) → prefix_len (λ b. not (eqb b 10)) bs ≡ n → n ≡ length bs
    → line_fault number (take n bs) ≡ None
    → lines_reading number from (slice_split (λ b. eqb b 10) bs) ≡ Ok (line_tokens number from (take n bs))
unfolding lines_reading
reading-last number from n bs len last fault =
    let all : take n bs ≡ bs = rw last (take-length bs) in
    let fault' = rw all at fault in
    rw (all, split-last bs (len ∙ last), fault') (ap Ok (append-nil _))

-- lines follow the first line
pub reading-more : (number from n : ℕ) (bs : List ℕ) → prefix_len (λ b. not (eqb b 10)) bs ≡ n → n < length bs
    → line_fault number (take n bs) ≡ None
    → lines_reading number from (slice_split (λ b. eqb b 10) bs)
    ≡ before (line_tokens number from (take n bs))
    (lines_reading (number + 1) (from + n + 1) (slice_split (λ b. eqb b 10) (drop (n + 1) bs)))
unfolding lines_reading
reading-more number from n bs len more fault =
    let size : length (take n bs) ≡ n = length-take-le n bs (omega arith) in
    rw (split-more bs n len more, fault, size)

-- the steps of a reading that goes on at a place of the text
module _ (text : List ℕ) (number from n : ℕ) (out : List Token)
    (same : before out (lines_reading number from (slice_split (λ b. eqb b 10) (drop from text))) ≡ tokens_of text)
    (len : n ≡ prefix_len (λ b. not (eqb b 10)) (take (length text - from) (drop from text))) where
  line_is : take (from + n - from) (drop from text) ≡ take n (drop from text)
  line_is = let size : from + n - from ≡ n = omega arith in rw size

  len_is : prefix_len (λ b. not (eqb b 10)) (drop from text) ≡ n
  len_is = sym (rw (drop_whole text from (length text) refl) at len)

  pub fault-there : (e : LexFault) → line_fault number (take (from + n - from) (drop from text)) ≡ Some e
      → tokens_of text ≡ Err e
  fault-there e fault =
      sym same ∙ ap (before out) (reading-fault number from n (drop from text) e len_is (rw line_is at fault))

  pub last-there : (new : List Token) → from ≤ length text → from + n ≡ length text
      → line_fault number (take (from + n - from) (drop from text)) ≡ None
      → new ≡ out ++ line_tokens number from (take (from + n - from) (drop from text)) → tokens_of text ≡ Ok new
  last-there new within end fault put =
      let size : n ≡ length (drop from text) = omega (arith, length-drop from text) in
      sym same ∙ ap (before out) (reading-last number from n (drop from text) len_is size (rw line_is at fault)) ∙ ap Ok
      (sym (rw line_is at put))

  pub more-there : (new : List Token) → from ≤ length text → from + n < length text
      → line_fault number (take (from + n - from) (drop from text)) ≡ None
      → new ≡ out ++ line_tokens number from (take (from + n - from) (drop from text))
      → before new (lines_reading (number + 1) (from + n + 1) (slice_split (λ b. eqb b 10) (drop (from + n + 1) text)))
      ≡ tokens_of text
  more-there new within end fault put =
      let size : n < length (drop from text) = omega (arith, length-drop from text) in
      let rest : drop (from + n + 1) text ≡ drop (n + 1) (drop from text) =
      (let at : from + n + 1 ≡ from + (n + 1) = omega arith in rw at (sym (drop-drop (n + 1) from text))) in
      rw (
        rw line_is at put,
        rest,
        ← before-before,
        ← reading-more number from n (drop from text) len_is size (rw line_is at fault),
      ) same
