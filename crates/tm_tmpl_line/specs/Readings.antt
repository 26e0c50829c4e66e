-- What tokens are read as, and the form of each statement. All of this is this project's own.
use Rattle.std.specs.Prelude.{ℕ, ◌≡◌, ◌+◌, not, if◌then◌else◌, List, drop, Option, Some, None, Result, Ok, Err, codes}
use Rattle.std.specs.Str.{bytes_eq}
use Rattle.tm_base.specs.declared.Pos.{Pos}
use Rattle.tm_lex.specs.declared.token.Token.{Token}
use Rattle.tm_lex.specs.Lines.{Lexeme, is_word, is_raw, keyword, name, number, line_end, lexemes}
use Rattle.tm_lex.specs.Lines.{ReadingOr, ◌>>=◌, one_token}
use Rattle.tm_tmpl_types.specs.declared.template.Want.{Want}
use Rattle.tm_tmpl_types.specs.declared.template.Want.TheVariants as want
use Rattle.tm_tmpl_types.specs.declared.template.TmplFault.{TmplFault}
use Rattle.tm_tmpl_types.specs.declared.template.TmplFault.TheVariants.{Early, Expected}
use Rattle.tm_tmpl_types.specs.declared.template.Kind.{Kind}
use Rattle.tm_tmpl_types.specs.declared.template.Kind.TheVariants.{True, False, Own}
use Rattle.tm_tmpl_types.specs.declared.template.Selector.{Selector}
use Rattle.tm_tmpl_types.specs.declared.template.Selector.TheVariants.{All, Hart, Core, Thread}
use Rattle.tm_tmpl_line.specs.declared.words.Whom.{Whom}
use Rattle.tm_tmpl_line.specs.declared.words.Whom.TheVariants as whose
use Rattle.tm_tmpl_types.specs.declared.template.SlotText.{SlotText}
use Rattle.tm_tmpl_types.specs.declared.template.SlotText.TheVariants.{Emit, Mix}

-- ---- what a token can be read as, beside words that other grammars have too

-- a token as a window's kind
abbrev pub kind : Lexeme → Option Kind
kind x = if not (is_word x.0.kind) then None else if bytes_eq x.1 (codes "true") then Some True
    else if bytes_eq x.1 (codes "false") then Some False else if bytes_eq x.1 (codes "own") then Some Own else None

-- what follows `body`
abbrev pub whom : Lexeme → Option Whom
whom x = if not (is_word x.0.kind) then None else if bytes_eq x.1 (codes "all") then Some whose.All
    else if bytes_eq x.1 (codes "hart") then Some whose.Hart else if bytes_eq x.1 (codes "core") then Some whose.Core
    else if bytes_eq x.1 (codes "thread") then Some whose.Thread else None

-- a token as an assembler line
abbrev pub asm : Lexeme → Option (List ℕ)
asm x = if is_raw x.0.kind then Some x.1 else None

-- ---- a statement is its tokens in order, the first that doesn't fit is at fault

-- what was read of tokens, with those behind it; or the fault
abbrev pub Reading : Type 0 → Type 0
Reading A = ReadingOr TmplFault A

-- the next token of the line, and what was wanted of it
abbrev pub one : {A : Type 0} → Want → (Lexeme → Option A) → List Lexeme → Reading A
one w read xs = one_token (Early w) (λ p. Expected p w) read xs

-- ---- statements

-- what a line says
pub data Statement : Type 0 where
  template : List ℕ → Statement
  passes : ℕ → Statement
  window : ℕ → Kind → ℕ → Statement
  case_of : List ℕ → Statement
  body : Selector → Statement
  slot : SlotText → Statement

-- a statement with the place of its first word
abbrev pub At : Type 0
At = Pos × Statement

-- a whole statement, behind which its line ends
abbrev pub ended : {A : Type 0} → A → List Lexeme → Reading A
ended s xs = one want.LineEnd line_end xs >>= (λ _ rest. Ok (s, rest))

-- a number that is the last word of its line
abbrev pub last_number : List Lexeme → Reading ℕ
last_number xs = one want.Number number xs >>= ended

-- all harts need no number
abbrev pub numbered : (ℕ → Selector) → List Lexeme → Reading Statement
numbered which xs = last_number xs >>= (λ n rest. Ok (body (which n), rest))

-- what follows the word that says whom a body is for
abbrev pub after_whom : Whom → List Lexeme → Reading Statement
after_whom whose.All xs = ended (body All) xs
after_whom whose.Hart xs = numbered Hart xs
after_whom whose.Core xs = numbered Core xs
after_whom whose.Thread xs = numbered Thread xs

-- a weight after its class
abbrev pub weight : List ℕ → List Lexeme → Reading ℕ
weight class xs = one want.Class (keyword class) xs >>= (λ _ rest. one want.Number number rest)

-- the first words, with what follows them
abbrev pub template_line : List Lexeme → Reading Statement
template_line xs = one want.Name name xs >>= (λ n rest. ended (template n) rest)

-- a number
abbrev pub passes_line : List Lexeme → Reading Statement
passes_line xs = last_number xs >>= (λ n rest. Ok (passes n, rest))

-- a window's number, its kind, and how many lines it has
abbrev pub window_line : List Lexeme → Reading Statement
window_line xs =
    one want.Number number xs >>= (λ w rest. one want.Kind kind rest >>=
    (λ k rest. one want.Number number rest >>= (λ n rest. ended (window w k n) rest)))

-- a name
abbrev pub case_line : List Lexeme → Reading Statement
case_line xs = one want.Name name xs >>= (λ n rest. ended (case_of n) rest)

-- whom the body is for
abbrev pub body_line : List Lexeme → Reading Statement
body_line xs = one want.Selector whom xs >>= after_whom

-- an assembler line
abbrev pub emit_line : List Lexeme → Reading Statement
emit_line xs = one want.Asm asm xs >>= (λ a rest. ended (slot (Emit a)) rest)

-- how many slots, and the weights of the four classes
abbrev pub mix_line : List Lexeme → Reading Statement
mix_line xs =
    one want.Number number xs >>= (λ n rest. weight (codes "alu") rest >>=
    (λ a rest. weight (codes "load") rest >>= (λ l rest.
    weight (codes "store") rest >>= (λ s rest. weight (codes "branch") rest >>=
    (λ b rest. ended (slot (Mix n a l s b)) rest)))))

-- ---- the tokens of a text, and what is read of a line

-- the token at an index of a line was read, or is at fault
abbrev pub ReadsOne : {A : Type 0} → Want → (Lexeme → Option A) → List ℕ → List Token → ℕ → Result A TmplFault → Type 0
ReadsOne w read text line at (Ok a) = one w read (lexemes text (drop at line))
    ≡ Ok (a, lexemes text (drop (at + 1) line))
ReadsOne w read text line at (Err e) = one w read (lexemes text (drop at line)) ≡ Err e

-- how many tokens the line of a body has
abbrev pub body_len : Selector → ℕ
body_len All = 3
body_len _ = 4
