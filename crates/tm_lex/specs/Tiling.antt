-- What tokens are, in the words of the format. Lines are gaps and words in turn; a line's fault is the first place
-- with a cause. All of this is this project's own.
use Rattle.std.specs.Prelude.{ℕ, ◌≡◌, ◌≢◌, ◌≤◌, ◌<◌, ◌+◌, ◌-◌, ◌==◌, ◌⊎◌, Bool, true, false, ◌&&◌, ◌||◌, not, nat_le}
use Rattle.std.specs.Prelude.{nat_lt, List, [], ◌∷◌, ◌++◌, length, drop, map, codes, slice_index}
use Rattle.std.specs.List.{list_all, list_any, slice_split}
use Rattle.tm_base.specs.declared.limits.TheConstants.{WORD_BYTES}
use Rattle.tm_lex.specs.declared.token.TokenKind.{TokenKind}
use Rattle.tm_lex.specs.declared.token.TokenKind.TheVariants.{Word}
use Rattle.tm_lex.specs.declared.token.Token.{Token}
use Rattle.tm_lex.specs.declared.token.LexFault.{LexFault}
use Rattle.tm_lex.specs.declared.token.LexFault.TheVariants.{BadByte, LongWord, NoMemory}
use Rattle.tm_lex.specs.Lexing.{Span, is_word, is_separator, content, text_of, with_end, token_at, as_words, as_raw}

-- a byte that may stand outside comments
abbrev pub may_stand : ℕ → Bool
may_stand b = is_word b || is_separator b

-- bytes that do not begin with a byte of a word
abbrev pub begins_no_word : List ℕ → Bool
begins_no_word [] = true
begins_no_word (b ∷ bs) = not (is_word b)

-- bytes that begin at a place i are a gap without bytes of words, the word at this span, and a rest that doesn't go
-- on with it
pub record IsWordFirst (s : Span) (i : ℕ) (bs gap word rest : List ℕ) : Type 0 where
  pub spelled : bs ≡ gap ++ (word ++ rest)
  pub begins : s.0 ≡ i + length gap
  pub ends : s.1 ≡ s.0 + length word
  pub some : 0 < length word
  pub gap_is : list_all (λ b. not (is_word b)) gap ≡ true
  pub word_is : list_all is_word word ≡ true
  pub apart : begins_no_word rest ≡ true

-- bytes that begin at a place i are gaps and words in turn, the words at these spans
abbrev pub WordsAt : List Span → ℕ → List ℕ → Type 0
WordsAt [] i bs = list_all (λ b. not (is_word b)) bs ≡ true
WordsAt (s ∷ ss) i bs = (gap : List ℕ) × (word : List ℕ) × (rest : List ℕ) × IsWordFirst s i bs gap word rest
    × WordsAt ss s.1 rest

-- a span of bytes that begin at a place i: separators around it, and none at its ends
pub record IsTrimmed (s : Span) (i : ℕ) (bs : List ℕ) : Type 0 where
  pub behind : i ≤ s.0
  pub some : s.0 < s.1
  pub within : s.1 ≤ i + length bs
  pub front : (k : ℕ) → k < s.0 - i → is_separator (slice_index bs k) ≡ true
  pub back : (k : ℕ) → s.1 - i ≤ k → k < length bs → is_separator (slice_index bs k) ≡ true
  pub first : is_separator (slice_index bs (s.0 - i)) ≡ false
  pub last : is_separator (slice_index bs (s.1 - i - 1)) ≡ false

-- the raw part of what follows `emit`: the rest without the separators at its ends, if it isn't empty
abbrev pub RawAt : List Span → ℕ → List ℕ → Type 0
RawAt [] i bs = list_all is_separator bs ≡ true
RawAt (s ∷ []) i bs = IsTrimmed s i bs
RawAt (s ∷ t ∷ ss) i bs = ⊥

-- the parts of a line without its comment: its words, or behind a first word `emit` the raw part
abbrev pub AreKinds : List ℕ → List Span → List (TokenKind × Span) → Type 0
AreKinds bs [] ps = ps ≡ []
AreKinds bs (s ∷ ss) ps =
    (text_of bs s ≢ codes "emit" → ps ≡ as_words (s ∷ ss))
    × (text_of bs s ≡ codes "emit" → (raw : List Span) × RawAt raw s.1 (drop s.1 bs) × (ps ≡ (Word, s) ∷ as_raw raw))

-- the parts of a line without its comment: some spans are its words, and the parts are of their kinds
abbrev pub AreParts : List ℕ → List (TokenKind × Span) → Type 0
AreParts bs ps = (ss : List Span) × WordsAt ss 0 bs × AreKinds bs ss ps

-- what can be wrong at a place: a byte that may not stand there, or a part that is too long and begins there
abbrev pub is_bad_at : List ℕ → ℕ → Bool
is_bad_at bs p = nat_lt p (length bs) && not (may_stand (slice_index bs p))

-- a part of more bytes than a word may have begins at a place
abbrev pub is_long_at : List (TokenKind × Span) → ℕ → Bool
is_long_at ps p = list_any (λ s. s.1.0 == p && nat_lt (s.1.0 + WORD_BYTES) s.1.1) ps

-- nothing is wrong at the places before one
abbrev pub IsFineBefore : List ℕ → List (TokenKind × Span) → ℕ → Type 0
IsFineBefore bs ps p = (k : ℕ) → k < p → (is_bad_at bs k ≡ false) × (is_long_at ps k ≡ false)

-- nothing is wrong in a line
abbrev pub IsFine : List ℕ → List (TokenKind × Span) → Type 0
IsFine bs ps = (list_all may_stand bs ≡ true) × (list_all (λ s. nat_le s.1.1 (s.1.0 + WORD_BYTES)) ps ≡ true)

-- the fault is at the first place of line n at which something is wrong; of two causes at one place it is the bad byte
abbrev pub IsFirstOf : ℕ → List ℕ → List (TokenKind × Span) → LexFault → Type 0
IsFirstOf n bs ps (BadByte pos b) =
    (p : ℕ) × (pos ≡ record { line = n; col = p + 1 }) × (b ≡ slice_index bs p) × (is_bad_at bs p ≡ true)
    × IsFineBefore bs ps p
IsFirstOf n bs ps (LongWord pos) =
    (p : ℕ) × (pos ≡ record { line = n; col = p + 1 }) × (is_long_at ps p ≡ true) × (is_bad_at bs p ≡ false)
    × IsFineBefore bs ps p
IsFirstOf n bs ps NoMemory = ⊥

-- lines from a number and a place on have these tokens: all is fine, and each line has a token at each of its parts
-- and, where there is a part, one at its end
abbrev pub HaveTokens : ℕ → ℕ → List (List ℕ) → List Token → Type 0
HaveTokens n from [] ts = ts ≡ []
HaveTokens n from (line ∷ rest) ts =
    (ps : List (TokenKind × Span)) × (more : List Token) × AreParts (content line) ps × IsFine (content line) ps
    × (ts ≡ map (token_at n from) (with_end (length line) ps) ++ more)
    × HaveTokens (n + 1) (from + length line + 1) rest more

-- lines from a number on have this first fault: it is the first of a line, and the lines before are fine
abbrev pub HaveFault : ℕ → List (List ℕ) → LexFault → Type 0
HaveFault n [] e = ⊥
HaveFault n (line ∷ rest) e =
    (ps : List (TokenKind × Span)) × AreParts (content line) ps
    × (IsFirstOf n (content line) ps e ⊎ (IsFine (content line) ps × HaveFault (n + 1) rest e))

-- the lines of a text: LF ends one, and the text's end the last
abbrev pub lines_of : List ℕ → List (List ℕ)
lines_of text = slice_split (λ b. b == 10) text

-- tokens stand in order from a place to another one
abbrev pub AreInOrder : ℕ → ℕ → List Token → Type 0
AreInOrder i n [] = i ≤ n
AreInOrder i n (t ∷ ts) = (i ≤ t.from) × (t.from ≤ t.to) × AreInOrder t.to n ts

-- the tokens of a text, and its first fault
unfoldable pub AreTokens : List ℕ → List Token → Type 0
AreTokens text ts = HaveTokens 1 0 (lines_of text) ts

-- the first fault of a text
unfoldable pub IsFirstFault : List ℕ → LexFault → Type 0
IsFirstFault text e = HaveFault 1 (lines_of text) e
