-- Which statement may follow which, and the template that statements make. All of this is this project's own.
use Rattle.std.specs.Prelude.{ℕ, ◌≡◌, ◌⊎◌, ◌+◌, ◌==◌, not, if◌then◌else◌, List, [], ◌∷◌, count_by, Option, Some, None}
use Rattle.std.specs.Prelude.{Result, Ok, Err, codes}
use Rattle.std.specs.List.{suffix_len}
use Rattle.std.specs.Str.{bytes_eq}
use Rattle.tm_base.specs.declared.Pos.{Pos}
use Rattle.tm_lex.specs.Lexing.{tokens_of}
use Rattle.tm_lex.specs.declared.token.Token.{Token}
use Rattle.tm_lex.specs.declared.token.LexFault.{LexFault}
use Rattle.tm_lex.specs.Lines.{Lexeme, lexemes, is_line_end}
use Rattle.tm_tmpl_line.specs.Readings.{Reading, Statement, At, template, passes}
use Rattle.tm_tmpl_line.specs.Readings.{window, case_of, body, slot, template_line, passes_line, window_line}
use Rattle.tm_tmpl_line.specs.Readings.{case_line, body_line, emit_line, mix_line}
use Rattle.tm_tmpl_types.specs.declared.template.Want.TheVariants as want
use Rattle.tm_tmpl_types.specs.declared.template.TmplFault.{TmplFault}
use Rattle.tm_tmpl_types.specs.declared.template.TmplFault.TheVariants.{Lex, Early, Expected}
use Rattle.tm_tmpl_types.specs.declared.template.SlotDecl.{SlotDecl}
use Rattle.tm_tmpl_types.specs.declared.template.BodyDecl.{BodyDecl}
use Rattle.tm_tmpl_types.specs.declared.template.WindowDecl.{WindowDecl}
use Rattle.tm_tmpl_types.specs.declared.template.Template.{Template}

-- ---- which statement may follow which

-- what stands before a statement: nothing, or the statement before it
pub data Before : Type 0 where
  start : Before
  head : Before
  windows : Before
  cases : Before
  slots : Before

-- what stands before the statement behind this one
abbrev pub place_after : Statement → Before
place_after (template n) = head
place_after (passes n) = windows
place_after (window w k n) = windows
place_after (case_of n) = cases
place_after (body s) = slots
place_after (slot s) = slots

-- the line's form by its first word, where that may stand there
unfoldable pub choice : List Lexeme → Before → List ℕ → Lexeme → Reading Statement
choice xs start w x = if bytes_eq w (codes "template") then template_line xs else Err (Expected x.0.at want.Template)
choice xs head w x = if bytes_eq w (codes "passes") then passes_line xs else Err (Expected x.0.at want.Passes)
choice xs windows w x = if bytes_eq w (codes "window") then window_line xs else if bytes_eq w (codes "case")
    then case_line xs
    else Err (Expected x.0.at want.Statement)
choice xs cases w x = if bytes_eq w (codes "body") then body_line xs else if bytes_eq w (codes "case") then case_line xs
    else Err (Expected x.0.at want.Statement)
choice xs slots w x = if bytes_eq w (codes "emit") then emit_line xs else if bytes_eq w (codes "mix") then mix_line xs
    else if bytes_eq w (codes "body") then body_line xs else if bytes_eq w (codes "case") then case_line xs
    else Err (Expected x.0.at want.Statement)

-- the fault of a text that ends there, where a statement is still owed
abbrev pub early : Before → Option TmplFault
early start = Some (Early want.Template)
early head = Some (Early want.Passes)
early _ = None

-- a statement that was read, with the place of its line's first word
abbrev pub placed : Pos → Reading Statement → Result At TmplFault
placed p (Ok s) = Ok (p, s.0)
placed p (Err e) = Err e

-- what a line is read as behind what stands before it
abbrev pub line_reading : Before → List Lexeme → Result At TmplFault
line_reading b [] = Err (Early want.Statement)
line_reading b (x ∷ xs) = placed x.0.at (choice xs b x.1 x)

-- the lines of the tokens, each with its line end
abbrev pub onto_first : Lexeme → List (List Lexeme) → List (List Lexeme)
onto_first x [] = (x ∷ []) ∷ []
onto_first x (l ∷ ls) = (x ∷ l) ∷ ls

-- tokens cut behind each line end; what is left at the end is a line too
unfoldable pub token_lines : List Lexeme → List (List Lexeme)
token_lines [] = []
token_lines (x ∷ xs) = if is_line_end x.0.kind then (x ∷ []) ∷ token_lines xs else onto_first x (token_lines xs)

-- the statements of lines after what stands before them, or the first fault
abbrev pub at_end : Option TmplFault → Result (List At) TmplFault
at_end None = Ok []
at_end (Some e) = Err e

-- a statement in front of those that were read behind it
abbrev pub more : At → Result (List At) TmplFault → Result (List At) TmplFault
more s (Ok ss) = Ok (s ∷ ss)
more s (Err e) = Err e

-- the statements of a text from those of its first line and of the lines behind it
abbrev pub then_more : (Before → Result (List At) TmplFault) → Result At TmplFault → Result (List At) TmplFault
then_more rest (Ok s) = more s (rest (place_after s.1))
then_more rest (Err e) = Err e

-- the statements of lines behind what stands before them, or the first fault
unfoldable pub statements : List (List Lexeme) → Before → Result (List At) TmplFault
statements [] b = at_end (early b)
statements (line ∷ rest) b = then_more (statements rest) (line_reading b line)

-- ---- the template that statements make, from the last one back

-- what was made of the statements from the last one back: parts whose holder is still to come, and the template
pub record Parts : Type 0 where
  pub slots_left : List SlotDecl
  pub bodies_left : List BodyDecl
  pub windows_left : List WindowDecl
  pub made : Template

-- what a statement makes of what was made behind it
abbrev pub put : At → Parts → Parts
put (p, template n) r = record r { made = record r.made { name = n; windows = r.windows_left } }
put (p, passes n) r = record r { made = record r.made { passes = n; passes_at = p } }
put (p, window w k n) r = record r {
  windows_left = (record { at = p; number = w; kind = k; lines = n })
      ∷ r.windows_left;
}
put (p, case_of n) r = record r {
  bodies_left = [];
  made = record r.made { cases = (record { at = p; name = n; bodies = r.bodies_left }) ∷ r.made.cases };
}
put (p, body s) r = record r {
  slots_left = [];
  bodies_left = (record { at = p; whom = s; slots = r.slots_left })
      ∷ r.bodies_left;
}
put (p, slot s) r = record r { slots_left = (record { at = p; what = s }) ∷ r.slots_left }

-- what statements make, the last one first
unfoldable pub put_all : List At → Parts → Parts
put_all [] r = r
put_all (s ∷ ss) r = put s (put_all ss r)

-- the place of the text's end
abbrev pub end_of : List ℕ → Pos
end_of text = record { line = count_by (λ b. b == 10) text + 1; col = suffix_len (λ b. not (b == 10)) text + 1 }

-- before any statement: an empty template that ends where the text does
abbrev pub no_parts : List ℕ → Parts
no_parts text = record {
  slots_left = [];
  bodies_left = [];
  windows_left = [];
  made = record {
    name = [];
    passes = 0;
    passes_at = record { line = 1; col = 1 };
    windows = [];
    cases = [];
    end = end_of text;
  };
}

-- ---- the template of a text, or its first fault

-- the template that statements make, or their fault
abbrev pub made_of : List ℕ → Result (List At) TmplFault → Result Template TmplFault
made_of text (Ok ss) = Ok (put_all ss (no_parts text)).made
made_of text (Err e) = Err e

-- the template of tokens, or their fault
abbrev pub of_tokens : List ℕ → Result (List Token) LexFault → Result Template TmplFault
of_tokens text (Ok ts) = made_of text (statements (token_lines (lexemes text ts)) start)
of_tokens text (Err e) = Err (Lex e)

-- the template of a text, or its first fault
unfoldable pub template_of : List ℕ → Result Template TmplFault
template_of text = of_tokens text (tokens_of text)

-- a text ends early only before its first two statements
abbrev pub IsStatedFault : TmplFault → Type 0
IsStatedFault (Early w) = (w ≡ want.Template) ⊎ (w ≡ want.Passes)
IsStatedFault _ = Unit {0}
