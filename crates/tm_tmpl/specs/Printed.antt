-- The printed form: each statement a line of words with single spaces between them. This project's own.
use Rattle.std.specs.Prelude.{ℕ, ◌≡◌, List, [], ◌∷◌, ◌++◌, Ok, codes}
use Rattle.std.specs.Fmt.{decimal}
use Rattle.tm_base.specs.declared.Pos.{Pos}
use Rattle.tm_tmpl_types.specs.declared.template.SlotDecl.{SlotDecl}
use Rattle.tm_tmpl_types.specs.declared.template.BodyDecl.{BodyDecl}
use Rattle.tm_tmpl_types.specs.declared.template.CaseDecl.{CaseDecl}
use Rattle.tm_tmpl_types.specs.declared.template.WindowDecl.{WindowDecl}
use Rattle.tm_tmpl_types.specs.declared.template.Selector.{Selector}
use Rattle.tm_tmpl_types.specs.declared.template.Selector.TheVariants as whose
use Rattle.tm_tmpl_types.specs.declared.template.SlotText.{SlotText}
use Rattle.tm_tmpl_types.specs.declared.template.SlotText.TheVariants.{Emit, Mix}
use Rattle.tm_tmpl_types.specs.declared.template.Template.{Template}
use Rattle.tm_tmpl_line.specs.Readings.{Statement, template, passes, window, case_of, body, slot, At}
use Rattle.tm_tmpl_read.specs.Grammar.{template_of}
use Rattle.tm_tmpl_line.specs.Pieces.{kind_word}
use Rattle.tm_tmpl_read.specs.Steps.{windows_at, cases_at}

-- words with single spaces between them
abbrev pub spaced : List (List ℕ) → List ℕ
spaced [] = []
spaced (w ∷ []) = w
spaced (w ∷ v ∷ ws) = w ++ 32 ∷ spaced (v ∷ ws)

-- whom a body is for
abbrev pub whom_words : Selector → List (List ℕ)
whom_words whose.All = codes "all" ∷ []
whom_words (whose.Hart n) = codes "hart" ∷ decimal n ∷ []
whom_words (whose.Core n) = codes "core" ∷ decimal n ∷ []
whom_words (whose.Thread n) = codes "thread" ∷ decimal n ∷ []

-- an assembler line stands as one word, with whatever blanks it has
abbrev pub slot_words : SlotText → List (List ℕ)
slot_words (Emit asm) = codes "emit" ∷ asm ∷ []
slot_words (Mix n alu load store branch) =
    codes "mix" ∷ decimal n ∷ codes "alu" ∷ decimal alu ∷ codes "load" ∷ decimal load ∷ codes "store"
    ∷ decimal store ∷ codes "branch" ∷ decimal branch ∷ []

-- the words of a statement
unfoldable pub words_of : Statement → List (List ℕ)
words_of (template name) = codes "template" ∷ name ∷ []
words_of (passes n) = codes "passes" ∷ decimal n ∷ []
words_of (window w k n) = codes "window" ∷ decimal w ∷ kind_word k ∷ decimal n ∷ []
words_of (case_of name) = codes "case" ∷ name ∷ []
words_of (body whom) = codes "body" ∷ whom_words whom
words_of (slot what) = slot_words what

-- a statement's line, with the LF that ends it
unfoldable pub line_of : Statement → List ℕ
line_of s = spaced (words_of s) ++ 10 ∷ []

-- the lines of statements, one behind the other
unfoldable pub lines_of : List At → List ℕ
lines_of [] = []
lines_of (s ∷ ss) = line_of s.1 ++ lines_of ss

-- ---- templates apart from their places

-- the place that stands for each place where places do not count
abbrev pub nowhere : Pos
nowhere = record { line = 1; col = 1 }

-- windows without their places
abbrev pub bare_windows : List WindowDecl → List WindowDecl
bare_windows [] = []
bare_windows (w ∷ ws) = record w { at = nowhere } ∷ bare_windows ws

-- slots without their places
abbrev pub bare_slots : List SlotDecl → List SlotDecl
bare_slots [] = []
bare_slots (d ∷ ds) = record d { at = nowhere } ∷ bare_slots ds

-- bodies without their places
abbrev pub bare_bodies : List BodyDecl → List BodyDecl
bare_bodies [] = []
bare_bodies (b ∷ bs) = (record { at = nowhere; whom = b.whom; slots = bare_slots b.slots }) ∷ bare_bodies bs

-- cases without their places
abbrev pub bare_cases : List CaseDecl → List CaseDecl
bare_cases [] = []
bare_cases (c ∷ cs) = (record { at = nowhere; name = c.name; bodies = bare_bodies c.bodies }) ∷ bare_cases cs

-- a template without its places
unfoldable pub without_places : Template → Template
without_places t = record {
  name = t.name;
  passes = t.passes;
  passes_at = nowhere;
  windows = bare_windows t.windows;
  cases = bare_cases t.cases;
  end = nowhere;
}

-- a text is read as a template that equals this one apart from places
abbrev pub ReadsBack : List ℕ → Template → Type 0
ReadsBack text t = (r : Template) × (template_of text ≡ Ok r) × (without_places r ≡ without_places t)

-- a template, statement by statement
unfoldable pub printed : Template → List ℕ
printed t = line_of (template t.name) ++ (line_of (passes t.passes)
    ++ (lines_of (windows_at t.windows) ++ lines_of (cases_at t.cases)))
