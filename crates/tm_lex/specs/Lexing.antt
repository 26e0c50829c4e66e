-- The tokens of a text, line by line. All of this is this project's own.
use Rattle.std.specs.Prelude.{ℕ, ◌≡◌, ◌≤◌, ◌<◌, ◌+◌, ◌-◌, ◌==◌, Bool, ◌&&◌, ◌||◌, not, nat_le, nat_lt, if◌then◌else◌}
use Rattle.std.specs.Prelude.{List, [], ◌∷◌, ◌++◌, length, take, drop, map, find, position, Option, Some, None}
use Rattle.std.specs.Prelude.{option_map, Result, Ok, Err, codes, slice_index}
use Rattle.std.specs.List.{before_first, prefix_len, suffix_len, slice_split}
use Rattle.std.specs.Str.{bytes_eq}
use Rattle.tm_base.specs.declared.limits.TheConstants.{WORD_BYTES}
use Rattle.tm_lex.specs.declared.token.TokenKind.{TokenKind}
use Rattle.tm_lex.specs.declared.token.TokenKind.TheVariants.{Word, Raw, LineEnd}
use Rattle.tm_lex.specs.declared.token.Token.{Token}
use Rattle.tm_lex.specs.declared.token.LexFault.{LexFault}
use Rattle.tm_lex.specs.declared.token.LexFault.TheVariants.{BadByte, LongWord}

-- a byte of a word: one that shows, and no `#`
unfoldable pub is_word : ℕ → Bool
is_word b = (nat_le 0x21 b && nat_le b 0x7E) && not (b == 0x23)

-- space, tab and CR
unfoldable pub is_separator : ℕ → Bool
is_separator b = (b == 0x20 || b == 9) || b == 13

-- a line without its comment
abbrev pub content : List ℕ → List ℕ
content line = before_first (λ b. b == 0x23) line

-- a part of a line, from one place up to another
abbrev pub Span : Type 0
Span = ℕ × ℕ

-- a byte of a word before what follows it: it begins the word that goes on, or is one by itself
abbrev pub word_byte : ℕ → List Span → List Span
word_byte i [] = (i, i + 1) ∷ []
word_byte i (s ∷ rest) = if s.0 == i + 1 then (i, s.1) ∷ rest else (i, i + 1) ∷ s ∷ rest

-- the words of bytes that begin at a place: the maximal runs of word bytes
unfoldable pub words : ℕ → List ℕ → List Span
words i [] = []
words i (b ∷ bs) = if is_word b then word_byte i (words (i + 1) bs) else words (i + 1) bs

-- the bytes of a span
abbrev pub text_of : List ℕ → Span → List ℕ
text_of line s = take (s.1 - s.0) (drop s.0 line)

-- a part without the separators at its ends, if something is left
abbrev pub trimmed : ℕ → List ℕ → List Span
trimmed i bs =
    let from = prefix_len is_separator bs in
    if from == length bs then [] else (i + from, i + length bs - suffix_len is_separator bs) ∷ []

-- the spans of a line with their kinds: its words, or after `emit` the rest as one raw part
abbrev pub with_kinds : List ℕ → List Span → List (TokenKind × Span)
with_kinds bs [] = []
with_kinds bs (s ∷ rest) =
    if bytes_eq (text_of bs s) (codes "emit") then (Word, s) ∷ map (λ r. (Raw, r)) (trimmed s.1 (drop s.1 bs))
    else (Word, s) ∷ map (λ r. (Word, r)) rest

-- the spans of a line without its comment, with their kinds
unfoldable pub spans : List ℕ → List (TokenKind × Span)
spans bs = with_kinds bs (words 0 bs)

-- the line's end, where the line has a token
abbrev pub with_end : ℕ → List (TokenKind × Span) → List (TokenKind × Span)
with_end n [] = []
with_end n (s ∷ rest) = s ∷ rest ++ (LineEnd, (n, n)) ∷ []

-- the token at a span of the line with this number, which begins at this place of the text
abbrev pub token_at : ℕ → ℕ → TokenKind × Span → Token
token_at number from s = record {
  kind = s.0;
  at = record { line = number; col = s.1.0 + 1 };
  from = from + s.1.0;
  to = from + s.1.1;
}

-- the first byte that may not stand outside comments, and the first part that is too long
abbrev pub bad_byte : List ℕ → Option ℕ
bad_byte bs = position (λ b. not (is_word b || is_separator b)) bs

-- where the first part of more bytes than a word may have begins
abbrev pub long_part : List (TokenKind × Span) → Option ℕ
long_part ss = option_map (λ s. s.1.0) (find (λ s. nat_lt (s.1.0 + WORD_BYTES) s.1.1) ss)

-- the fault that comes first, and of two at one place the bad byte
abbrev pub first_fault : ℕ → List ℕ → Option ℕ → Option ℕ → Option LexFault
first_fault number bs None None = None
first_fault number bs (Some p) None = Some (BadByte (record { line = number; col = p + 1 }) (slice_index bs p))
first_fault number bs None (Some q) = Some (LongWord (record { line = number; col = q + 1 }))
first_fault number bs (Some p) (Some q) =
    if nat_lt q p then Some (LongWord (record { line = number; col = q + 1 }))
    else Some (BadByte (record { line = number; col = p + 1 }) (slice_index bs p))

-- a line's first fault
unfoldable pub line_fault : ℕ → List ℕ → Option LexFault
line_fault number line = first_fault number (content line) (bad_byte (content line)) (long_part (spans (content line)))

-- a line's tokens, with its number and its place in the text
unfoldable pub line_tokens : ℕ → ℕ → List ℕ → List Token
line_tokens number from line = map (token_at number from) (with_end (length line) (spans (content line)))

-- the tokens before those of the text that follows
abbrev pub before : List Token → Result (List Token) LexFault → Result (List Token) LexFault
before ts (Ok more) = Ok (ts ++ more)
before ts (Err e) = Err e

-- what follows a line, unless the line has a fault
abbrev pub unless_fault : Option LexFault → Result (List Token) LexFault → Result (List Token) LexFault
unless_fault (Some e) r = Err e
unless_fault None r = r

-- the tokens of lines from a number and a place on, or the first fault in them
unfoldable pub lines_reading : ℕ → ℕ → List (List ℕ) → Result (List Token) LexFault
lines_reading number from [] = Ok []
lines_reading number from (line ∷ rest) =
    unless_fault (line_fault number line) (before (line_tokens number from line)
    (lines_reading (number + 1) (from + length line + 1) rest))

-- the tokens of a text, or its first fault; LF ends a line, and the text's end the last one
unfoldable pub tokens_of : List ℕ → Result (List Token) LexFault
tokens_of text = lines_reading 1 0 (slice_split (λ b. b == 10) text)

-- the words of a line from a place on are this one, and those after it
abbrev pub IsNextWord : List ℕ → ℕ → Option (ℕ × ℕ) → Type 0
IsNextWord bs at None = words at (drop at bs) ≡ []
IsNextWord bs at (Some s) = (words at (drop at bs) ≡ s ∷ words s.1 (drop s.1 bs)) × (at ≤ s.0) × (s.0 < s.1)
    × (s.1 ≤ length bs)

-- a part that may be missing, as a list
abbrev pub as_list : Option Span → List Span
as_list None = []
as_list (Some s) = s ∷ []

-- words with their kind
abbrev pub as_words : List Span → List (TokenKind × Span)
as_words ss = map (λ r. (Word, r)) ss

-- spans as raw parts
abbrev pub as_raw : List Span → List (TokenKind × Span)
as_raw ss = map (λ r. (Raw, r)) ss
