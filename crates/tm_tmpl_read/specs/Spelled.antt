-- A template in the grammar's own words: which tokens spell it, one for one, and where a text leaves every template.
-- All of this is this project's own.
use Rattle.std.specs.Prelude.{ℕ, ◌≡◌, List, [], ◌∷◌, ◌++◌, Result, Ok, Err}
use Rattle.tm_base.specs.declared.Pos.{Pos}
use Rattle.tm_lex.specs.Lexing.{tokens_of}
use Rattle.tm_lex.specs.declared.token.Token.{Token}
use Rattle.tm_lex.specs.Lines.{Lexeme, lexemes}
use Rattle.tm_tmpl_types.specs.declared.template.Want.{Want}
use Rattle.tm_tmpl_types.specs.declared.template.Template.{Template}
use Rattle.tm_tmpl_types.specs.declared.template.TmplFault.{TmplFault}
use Rattle.tm_tmpl_types.specs.declared.template.TmplFault.TheVariants.{Lex, Early, Expected, NoMemory}
use Rattle.tm_tmpl_line.specs.Readings.{At, template, passes}
use Rattle.tm_tmpl_line.specs.Pieces.{Piece, want_of, pieces_of, AreFit}
use Rattle.tm_tmpl_read.specs.Grammar.{end_of}
use Rattle.tm_tmpl_read.specs.Steps.{windows_at, cases_at}

-- ---- the tokens of a template

-- the pieces of statements, one statement behind the other
abbrev pub all_pieces : List At → List Piece
all_pieces [] = []
all_pieces (s ∷ ss) = pieces_of s ++ all_pieces ss

-- the statements of a template in order, the first of them at a place: its name, its passes, its windows, its cases
-- with what they hold
abbrev pub statements_of : Pos → Template → List At
statements_of p t = (p, template t.name) ∷ (t.passes_at, passes t.passes) ∷ (windows_at t.windows ++ cases_at t.cases)

-- tokens spell a template; the place of its first word is free, since a template doesn't keep it
unfoldable pub Spells : List Lexeme → Template → Type 0
Spells xs t = (p : Pos) × AreFit (all_pieces (statements_of p t)) xs

-- a text spells a template: its tokens do, and the template ends where the text does
unfoldable pub IsSpelled : List ℕ → Template → Type 0
IsSpelled text t = (ts : List Token) × (tokens_of text ≡ Ok ts) × Spells (lexemes text ts) t × (t.end ≡ end_of text)

-- ---- where a text leaves every template

-- some template is spelled by these tokens and others behind them
unfoldable pub GoesOn : List Lexeme → Type 0
GoesOn xs = (behind : List Lexeme) × (t : Template) × Spells (xs ++ behind) t

-- a piece that stands behind tokens in a template: they stand for what the template has before it, and some tokens
-- stand for it and for all behind it
pub record Follows (before : List Lexeme) (q : Piece) : Type 0 where
  pub t : Template
  pub place : Pos
  pub done : List Piece
  pub more : List Piece
  pub behind : List Lexeme
  pub pieces : all_pieces (statements_of place t) ≡ done ++ q ∷ more
  pub begun : AreFit done before
  pub further : AreFit (q ∷ more) behind

-- what is wanted behind tokens: some piece may follow, and each that may is called this
pub record Wants (before : List Lexeme) (w : Want) : Type 0 where
  pub next : Piece
  pub some : Follows before next
  pub each : (q : Piece) → Follows before q → want_of q ≡ w

-- tokens leave every template at the token of this place: with those before it some template goes on, with this one
-- too none does. So it is the first such token
pub record Leaves (xs : List Lexeme) (p : Pos) (w : Want) : Type 0 where
  pub before : List Lexeme
  pub x : Lexeme
  pub behind : List Lexeme
  pub split : xs ≡ before ++ x ∷ behind
  pub place : x.0.at ≡ p
  pub fine : GoesOn before
  pub left : GoesOn (before ++ x ∷ []) → ⊥
  pub wants : Wants before w

-- tokens that end where every template goes on
pub record Stops (xs : List Lexeme) (w : Want) : Type 0 where
  pub fine : GoesOn xs
  pub short : (t : Template) → Spells xs t → ⊥
  pub wants : Wants xs w

-- the fault of a text: of its tokens, or its tokens stop early or leave every template; want of memory says nothing
-- of it
unfoldable pub IsFaultOf : List ℕ → TmplFault → Type 0
IsFaultOf text (Lex e) = tokens_of text ≡ Err e
IsFaultOf text (Early w) = (ts : List Token) × (tokens_of text ≡ Ok ts) × Stops (lexemes text ts) w
IsFaultOf text (Expected p w) = (ts : List Token) × (tokens_of text ≡ Ok ts) × Leaves (lexemes text ts) p w
IsFaultOf text NoMemory = Unit {0}

-- the answer is this template, or want of memory
abbrev pub IsOrNoMemory : Template → Result Template TmplFault → Type 0
IsOrNoMemory t (Ok r) = r ≡ t
IsOrNoMemory t (Err e) = e ≡ NoMemory
