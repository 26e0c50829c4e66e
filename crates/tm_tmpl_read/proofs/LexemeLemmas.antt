-- The tokens of a text are lines: each begins with a word, and has a line end at its end alone.
use Rattle.std.proofs.Common.{◌≡◌, ℕ, ◌+◌, ◌-◌, false, List, [], ◌∷◌, ◌++◌, length, take, drop, map, codes, refl, sym}
use Rattle.std.proofs.Common.{ap, subst, ◌∙◌, inl, inr}
use Rattle.std.specs.Str.{bytes_eq}
use Rattle.std.proofs.lemmas.Bool.{cases_Bool, true≢false}
use Rattle.std.proofs.lemmas.Slice.Eq.{bytes_eq-Decides}
use Rattle.tm_lex.specs.declared.token.TokenKind.{TokenKind}
use Rattle.tm_lex.specs.declared.token.TokenKind.TheVariants.{Word, LineEnd}
use Rattle.tm_lex.specs.declared.token.Token.{Token}
use Rattle.tm_lex.specs.Lexing.{Span, content, text_of, token_at, with_end, as_words, as_raw}
use Rattle.tm_lex.specs.Tiling.{AreParts, AreKinds, HaveTokens, AreTokens, lines_of}
use Rattle.tm_lex.specs.Lines.{Lexeme, lexemes, is_line_end}
use Rattle.tm_tmpl_read.specs.Grammar.{token_lines}
use Rattle.tm_tmpl_line.proofs.PieceLemmas.{ends_line, EndsOnce}
use Rattle.tm_tmpl_read.proofs.LineLemmas.{IsLine}
use Rattle.tm_tmpl_read.proofs.TextLemmas.{AreLines, line-ends, first-line-of}

pub lexemes-join : (text : List ℕ) (ts us : List Token) → lexemes text (ts ++ us) ≡ lexemes text ts ++ lexemes text us
lexemes-join text [] us = refl
lexemes-join text (t ∷ ts) us = ap (λ xs. (t, take (t.to - t.from) (drop t.from text)) ∷ xs) (lexemes-join text ts us)

pub tokens-join : (n from : ℕ) (ps qs : List (TokenKind × Span)) → map (token_at n from) (ps ++ qs)
    ≡ map (token_at n from) ps ++ map (token_at n from) qs
tokens-join n from [] qs = refl
tokens-join n from (p ∷ ps) qs = ap (λ ts. token_at n from p ∷ ts) (tokens-join n from ps qs)

abbrev Part : Type 0
Part = TokenKind × Span

-- parts without a line end
abbrev AreOpen : List Part → Type 0
AreOpen [] = Unit {0}
AreOpen (p ∷ ps) = (is_line_end p.0 ≡ false) × AreOpen ps

-- the parts of a line, a word first
abbrev AreOrdered : List Part → Type 0
AreOrdered [] = Unit {0}
AreOrdered (p ∷ ps) = (p.0 ≡ Word) × AreOpen ps

words_open : (ss : List Span) → AreOpen (as_words ss)
words_open [] = tt
words_open (s ∷ ss) = (refl, words_open ss)

raw_open : (ss : List Span) → AreOpen (as_raw ss)
raw_open [] = tt
raw_open (s ∷ ss) = (refl, raw_open ss)

parts_ordered : (bs : List ℕ) (ps : List Part) → AreParts bs ps → AreOrdered ps
parts_ordered bs ps h = ordered h.0 h.2 where
  ordered : (ss : List Span) → AreKinds bs ss ps → AreOrdered ps
  ordered [] kinds = rw kinds tt
  ordered (s ∷ ss) kinds = elim (cases_Bool (bytes_eq (text_of bs s) (codes "emit"))) [
    | inl here ↦ (let raw = kinds.1 ((bytes_eq-Decides (text_of bs s) (codes "emit")).0 here) in
        rw raw.2 (refl, raw_open raw.0))
    | inr other ↦
        (let plain = kinds.0 (λ eq. true≢false (sym ((bytes_eq-Decides (text_of bs s) (codes "emit")).1 eq) ∙ other)) in
        rw plain (refl, words_open ss))
  ]

-- the line of parts, with the token at its end
ends_open : (text : List ℕ) (n from m : ℕ) (ps : List Part) → AreOpen ps
    → EndsOnce ends_line (lexemes text (map (token_at n from) (ps ++ (LineEnd, (m, m)) ∷ [])))
ends_open text n from m [] h = refl
ends_open text n from m (p ∷ []) h = (h.0, refl)
ends_open text n from m (p ∷ q ∷ ps) h = (h.0, ends_open text n from m (q ∷ ps) h.1)

one_line : (text : List ℕ) (n from m : ℕ) (ps : List Part) → AreOrdered ps → (us : List Token)
    → AreLines (token_lines (lexemes text us))
    → AreLines (token_lines (lexemes text (map (token_at n from) (with_end m ps) ++ us)))
one_line text n from m [] parts us rest = rest
one_line text n from m (p ∷ ps) parts us rest =
    let line : List Lexeme = lexemes text (map (token_at n from) ((p ∷ ps) ++ (LineEnd, (m, m)) ∷ [])) in
    let is : IsLine line = (parts.0, ends_open text n from m ps parts.1) in
    let cut = ap token_lines (lexemes-join text (map (token_at n from) ((p ∷ ps) ++ (LineEnd, (m, m)) ∷ [])) us) ∙
    first-line-of line (lexemes text us) (line-ends line is) in
    subst AreLines (sym cut) (is, rest)

no_lines : (text : List ℕ) → AreLines (token_lines (lexemes text []))
unfolding token_lines
no_lines text = tt

lines_are : (lines : List (List ℕ)) (text : List ℕ) (n from : ℕ) (ts : List Token) → HaveTokens n from lines ts
    → AreLines (token_lines (lexemes text ts))
lines_are [] text n from ts h = rw h (no_lines text)
lines_are (l ∷ ls) text n from ts h =
    rw h.4 (one_line text n from (length l) h.0 (parts_ordered (content l) h.0 h.2) h.1
    (lines_are ls text (n + 1) (from + length l + 1) h.1 h.5))

pub are-lines : (text : List ℕ) (ts : List Token) → AreTokens text ts → AreLines (token_lines (lexemes text ts))
unfolding AreTokens
are-lines text ts h = lines_are (lines_of text) text 1 0 ts h
