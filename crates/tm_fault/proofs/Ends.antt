-- The tokens of a text end with a line's end, so that each line has one.
use Rattle.std.proofs.Common.{◌≡◌, ◌∙◌, ◌+◌, ◌==◌, ◌||◌, ℕ, Bool, true, false, refl, sym, ap, List}
use Rattle.std.proofs.Common.{[], ◌∷◌, ◌++◌, map, length, Option, Some, None, Result, Ok, Err}
use Rattle.std.specs.List.{list_any, slice_split}
use Rattle.tm_lex.specs.Lexing.{Span, tokens_of, lines_reading, line_tokens, line_fault, unless_fault, before}
use Rattle.tm_lex.specs.Lexing.{token_at, with_end, spans, content}
use Rattle.tm_lex.specs.declared.token.Token.{Token}
use Rattle.tm_lex.specs.declared.token.TokenKind.{TokenKind}
use Rattle.tm_lex.specs.declared.token.TokenKind.TheVariants.{LineEnd}
use Rattle.tm_lex.specs.declared.token.LexFault.{LexFault}
use Rattle.tm_lex.specs.Lines.{Lexeme, lexemes, is_line_end}
use Rattle.tm_fault.proofs.Reading.{err≢ok, ok-same}
use Rattle.std.proofs.lemmas.Bool.{or_right}

-- some token ends a line
abbrev pub has_end : List Lexeme → Bool
has_end xs = list_any (λ x. is_line_end x.0.kind) xs

-- ---- tokens that end with a line's end, or are none

abbrev ends_well : List Token → Bool
ends_well [] = true
ends_well (t ∷ []) = is_line_end t.kind
ends_well (t ∷ u ∷ ts) = ends_well (u ∷ ts)

both_end : (ts us : List Token) → ends_well ts ≡ true → ends_well us ≡ true → ends_well (ts ++ us) ≡ true
both_end [] us a b = b
both_end (t ∷ []) [] a b = a
both_end (t ∷ []) (u ∷ us) a b = b
both_end (t ∷ v ∷ ts) us a b = both_end (v ∷ ts) us a b

parts_end : (number from n : ℕ) (ss : List (TokenKind × Span))
    → ends_well (map (token_at number from) (ss ++ (LineEnd, (n, n)) ∷ [])) ≡ true
parts_end number from n [] = refl
parts_end number from n (s ∷ []) = refl
parts_end number from n (s ∷ t ∷ ss) = parts_end number from n (t ∷ ss)

line_ends : (number from : ℕ) (line : List ℕ) → ends_well (line_tokens number from line) ≡ true
unfolding line_tokens
line_ends number from line = by (spans (content line))
  where
    by : (ss : List (TokenKind × Span)) → ends_well (map (token_at number from) (with_end (length line) ss)) ≡ true
    by [] = refl
    by (s ∷ ss) = parts_end number from (length line) (s ∷ ss)

lines_end : (lines : List (List ℕ)) (number from : ℕ) (ts : List Token) → lines_reading number from lines ≡ Ok ts
    → ends_well ts ≡ true
unfolding lines_reading
lines_end [] number from ts is = ap ends_well (sym (ok-same [] ts is))
lines_end (line ∷ rest) number from ts is =
    by (line_fault number line) (lines_reading (number + 1) (from + length line + 1) rest)
    (λ more e. lines_end rest (number + 1) (from + length line + 1) more e) is
  where
    by : (o : Option LexFault) (r : Result (List Token) LexFault)
        → ((more : List Token) → r ≡ Ok more → ends_well more ≡ true)
        → unless_fault o (before (line_tokens number from line) r) ≡ Ok ts → ends_well ts ≡ true
    by (Some x) r more is = absurd (err≢ok x ts is)
    by None (Err x) more is = absurd (err≢ok x ts is)
    by None (Ok us) more is =
        ap ends_well (sym (ok-same (line_tokens number from line ++ us) ts is))
        ∙ both_end (line_tokens number from line) us (line_ends number from line) (more us refl)

pub text_ends : (text : List ℕ) (ts : List Token) → tokens_of text ≡ Ok ts → ends_well ts ≡ true
unfolding tokens_of
text_ends text ts is = lines_end (slice_split (λ b. b == 10) text) 1 0 ts is

-- ---- what is left of them

abbrev pub lexed_well : List Lexeme → Bool
lexed_well [] = true
lexed_well (x ∷ []) = is_line_end x.0.kind
lexed_well (x ∷ y ∷ xs) = lexed_well (y ∷ xs)

pub lexed : (text : List ℕ) (ts : List Token) → ends_well ts ≡ true → lexed_well (lexemes text ts) ≡ true
lexed text [] e = refl
lexed text (t ∷ []) e = e
lexed text (t ∷ u ∷ ts) e = lexed text (u ∷ ts) e

pub left_well : (front : List Lexeme) (x : Lexeme) (behind : List Lexeme) → lexed_well (front ++ x ∷ behind) ≡ true
    → lexed_well (x ∷ behind) ≡ true
left_well [] x behind e = e
left_well (y ∷ []) x behind e = e
left_well (y ∷ z ∷ front) x behind e = left_well (z ∷ front) x behind e

pub has_one : (x : Lexeme) (xs : List Lexeme) → lexed_well (x ∷ xs) ≡ true → has_end (x ∷ xs) ≡ true
has_one x [] e = ap (λ b. b || false) e
has_one x (y ∷ xs) e = or_right (is_line_end x.0.kind) (has_end (y ∷ xs)) (has_one y xs e)
