-- What the tokens of a line are read as, one after another, in a grammar with faults of its own. Source: this project.
use Rattle.std.specs.Prelude.{ℕ, ◌≤◌, ◌-◌, ◌==◌, ◌^◌, Bool, true, false, ◌&&◌, ◌||◌, nat_le, nat_lt, if◌then◌else◌}
use Rattle.std.specs.Prelude.{List, [], ◌∷◌, length, take, drop, Option, Some, None, Result, Ok, Err, slice_index}
use Rattle.std.specs.List.{list_all}
use Rattle.std.specs.Str.{bytes_eq}
use Rattle.tm_base.specs.Numbers.{number_of}
use Rattle.tm_base.specs.declared.Pos.{Pos}
use Rattle.tm_base.specs.declared.numbers.NumberFault.{NumberFault}
use Rattle.tm_base.specs.declared.limits.TheConstants.{NAME_BYTES}
use Rattle.tm_lex.specs.declared.token.Token.{Token}
use Rattle.tm_lex.specs.declared.token.TokenKind.{TokenKind}
use Rattle.tm_lex.specs.declared.token.TokenKind.TheVariants.{Word, Raw, LineEnd}

-- ---- what a token can be read as

-- a token with its bytes
abbrev pub Lexeme : Type 0
Lexeme = Token × List ℕ

-- a word
abbrev pub is_word : TokenKind → Bool
is_word Word = true
is_word _ = false

-- the rest of a line behind `emit`
abbrev pub is_raw : TokenKind → Bool
is_raw Raw = true
is_raw _ = false

-- a line's end
abbrev pub is_line_end : TokenKind → Bool
is_line_end LineEnd = true
is_line_end _ = false

-- a token as one fixed word
abbrev pub keyword : List ℕ → Lexeme → Option (Unit {0})
keyword text x = if is_word x.0.kind && bytes_eq x.1 text then Some tt else None

-- a to z, and 0 to 9
abbrev pub is_letter : ℕ → Bool
is_letter b = nat_le 97 b && nat_le b 122

-- 0 to 9
abbrev pub is_digit : ℕ → Bool
is_digit b = nat_le 48 b && nat_le b 57

-- a byte of a name
abbrev pub is_name_byte : ℕ → Bool
is_name_byte b = (is_letter b || is_digit b) || b == 95

-- a name has 1 to 16 letters, digits and `_`, the first a letter
abbrev pub is_name : List ℕ → Bool
is_name w = ((nat_le 1 (length w) && nat_le (length w) NAME_BYTES) && is_letter (slice_index w 0))
    && list_all is_name_byte w

-- a token as a name
abbrev pub name : Lexeme → Option (List ℕ)
name x = if is_word x.0.kind && is_name x.1 then Some x.1 else None

-- a number is below 2^32
abbrev pub small_number : Result ℕ NumberFault → Option ℕ
small_number (Ok n) = if nat_lt n (2 ^ 32) then Some n else None
small_number (Err e) = None

-- a token as a number
abbrev pub number : Lexeme → Option ℕ
number x = if is_word x.0.kind then small_number (number_of x.1) else None

-- a token as the line's end
abbrev pub line_end : Lexeme → Option (Unit {0})
line_end x = if is_line_end x.0.kind then Some tt else None

-- ---- the tokens of a text

-- tokens with their bytes
abbrev pub lexemes : List ℕ → List Token → List Lexeme
lexemes text [] = []
lexemes text (t ∷ ts) = (t, take (t.to - t.from) (drop t.from text)) ∷ lexemes text ts

-- the token spans a part of the text
abbrev pub IsSpan : List ℕ → Token → Type 0
IsSpan text t = (t.from ≤ t.to) × (t.to ≤ length text)

-- ---- a line is its tokens in order, the first that doesn't fit is at fault

-- what was read of tokens, with those behind it; or the fault, of the kind that the grammar has
abbrev pub ReadingOr : Type 0 → Type 0 → Type 0
ReadingOr F A = Result (A × List Lexeme) F

infixl 10 ◌>>=◌
-- what is read of the tokens behind, unless there was a fault
abbrev pub ◌>>=◌ : {F A B : Type 0} → ReadingOr F A → (A → List Lexeme → ReadingOr F B) → ReadingOr F B
(Ok p) >>= f = f p.0 p.1
(Err e) >>= f = Err e

-- what was read of one token, with those behind it; a token that was not read is at fault
abbrev pub fitting : {F A : Type 0} → F → List Lexeme → Option A → ReadingOr F A
fitting wrong xs None = Err wrong
fitting wrong xs (Some a) = Ok (a, xs)

-- the next token of the line, with the faults where there is none, and where one stands at a place that isn't read
abbrev pub one_token : {F A : Type 0} → F → (Pos → F) → (Lexeme → Option A) → List Lexeme → ReadingOr F A
one_token early wrong read [] = Err early
one_token early wrong read (x ∷ xs) = fitting (wrong x.0.at) xs (read x)
