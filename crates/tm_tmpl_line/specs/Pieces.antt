-- A statement in the grammar's own words: its pieces, and the tokens that stand for them. All of this is this
-- project's own.
use Rattle.std.specs.Prelude.{ℕ, ◌≡◌, ◌<◌, ◌^◌, true, List, [], ◌∷◌, ◌++◌, Ok, codes}
use Rattle.tm_base.specs.Numbers.{number_of}
use Rattle.tm_base.specs.declared.Pos.{Pos}
use Rattle.tm_lex.specs.declared.token.TokenKind.TheVariants.{Word, Raw, LineEnd}
use Rattle.tm_lex.specs.Lines.{Lexeme, is_name}
use Rattle.tm_tmpl_types.specs.declared.template.Want.{Want}
use Rattle.tm_tmpl_types.specs.declared.template.Want.TheVariants as want
use Rattle.tm_tmpl_types.specs.declared.template.Kind.{Kind}
use Rattle.tm_tmpl_types.specs.declared.template.Kind.TheVariants.{True, False, Own}
use Rattle.tm_tmpl_types.specs.declared.template.Selector.{Selector}
use Rattle.tm_tmpl_types.specs.declared.template.Selector.TheVariants.{All, Hart, Core, Thread}
use Rattle.tm_tmpl_types.specs.declared.template.SlotText.TheVariants.{Emit, Mix}
use Rattle.tm_tmpl_line.specs.Readings.{At, template, passes, window, case_of, body, slot}

-- ---- the pieces of a statement

-- what stands at one token: the first word of a statement, with its place; another fixed word; a name, a number, an
-- assembler line, or the line's end
pub data Piece : Type 0 where
  opening : Pos → Want → List ℕ → Piece
  fixed : Want → List ℕ → Piece
  a_name : List ℕ → Piece
  a_number : ℕ → Piece
  asm_line : List ℕ → Piece
  the_end : Piece

-- what a fault at a piece calls it
abbrev pub want_of : Piece → Want
want_of (opening p w bytes) = w
want_of (fixed w bytes) = w
want_of (a_name n) = want.Name
want_of (a_number n) = want.Number
want_of (asm_line a) = want.Asm
want_of the_end = want.LineEnd

-- the word of a window's kind
abbrev pub kind_word : Kind → List ℕ
kind_word True = codes "true"
kind_word False = codes "false"
kind_word Own = codes "own"

-- whom a body is for: all harts, or a word and a number
abbrev pub whom_pieces : Selector → List Piece
whom_pieces All = fixed want.Selector (codes "all") ∷ []
whom_pieces (Hart n) = fixed want.Selector (codes "hart") ∷ a_number n ∷ []
whom_pieces (Core n) = fixed want.Selector (codes "core") ∷ a_number n ∷ []
whom_pieces (Thread n) = fixed want.Selector (codes "thread") ∷ a_number n ∷ []

-- the pieces of a statement at its place, in order
unfoldable pub pieces_of : At → List Piece
pieces_of (p, template n) = opening p want.Template (codes "template") ∷ a_name n ∷ the_end ∷ []
pieces_of (p, passes n) = opening p want.Passes (codes "passes") ∷ a_number n ∷ the_end ∷ []
pieces_of (p, window w k n) = opening p want.Statement (codes "window") ∷ a_number w ∷ fixed want.Kind (kind_word k)
    ∷ a_number n ∷ the_end ∷ []
pieces_of (p, case_of n) = opening p want.Statement (codes "case") ∷ a_name n ∷ the_end ∷ []
pieces_of (p, body whom) = opening p want.Statement (codes "body") ∷ (whom_pieces whom ++ the_end ∷ [])
pieces_of (p, slot (Emit a)) = opening p want.Statement (codes "emit") ∷ asm_line a ∷ the_end ∷ []
pieces_of (p, slot (Mix n alu load store branch)) =
    opening p want.Statement (codes "mix") ∷ a_number n ∷ fixed want.Class (codes "alu") ∷ a_number alu
    ∷ fixed want.Class (codes "load") ∷ a_number load
    ∷ fixed want.Class (codes "store") ∷ a_number store ∷ fixed want.Class (codes "branch") ∷ a_number branch
    ∷ the_end ∷ []

-- ---- the tokens that stand for them

-- a token stands for a piece
abbrev pub Fits : Piece → Lexeme → Type 0
Fits (opening p w bytes) x = (x.0.kind ≡ Word) × (x.1 ≡ bytes) × (x.0.at ≡ p)
Fits (fixed w bytes) x = (x.0.kind ≡ Word) × (x.1 ≡ bytes)
Fits (a_name n) x = (x.0.kind ≡ Word) × (x.1 ≡ n) × (is_name n ≡ true)
Fits (a_number n) x = (x.0.kind ≡ Word) × (number_of x.1 ≡ Ok n) × (n < 2 ^ 32)
Fits (asm_line a) x = (x.0.kind ≡ Raw) × (x.1 ≡ a)
Fits the_end x = x.0.kind ≡ LineEnd

-- tokens stand for pieces, one for one and to the end
abbrev pub AreFit : List Piece → List Lexeme → Type 0
AreFit [] [] = Unit {0}
AreFit [] (x ∷ xs) = ⊥
AreFit (q ∷ qs) [] = ⊥
AreFit (q ∷ qs) (x ∷ xs) = Fits q x × AreFit qs xs
