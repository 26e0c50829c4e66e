-- How a reader goes on from the tokens that are left: the words of its private contracts.
use Rattle.std.specs.Prelude.{ℕ, ◌≡◌, ◌≢◌, ◌<◌, ◌+◌, ◌-◌, Bool, false, not, min, if◌then◌else◌, List, [], ◌∷◌, ◌++◌}
use Rattle.std.specs.Prelude.{length, take, drop, All, Option, Some, None, Result, Ok, Err, codes}
use Rattle.std.specs.Borrow.{Bor}
use Rattle.std.specs.List.{prefix_len}
use Rattle.std.specs.Str.{bytes_eq}
use Rattle.tm_base.specs.declared.Pos.{Pos}
use Rattle.tm_lex.specs.declared.token.Token.{Token}
use Rattle.tm_lex.specs.Lines.{lexemes, is_line_end}
use Rattle.tm_tmpl_line.specs.Readings.{window, case_of, body, slot, At}
use Rattle.tm_tmpl_read.specs.Grammar.{Before, cases, token_lines, statements}
use Rattle.tm_tmpl_types.specs.declared.template.Want.TheVariants as want
use Rattle.tm_tmpl_types.specs.declared.template.TmplFault.{TmplFault}
use Rattle.tm_tmpl_types.specs.declared.template.TmplFault.TheVariants.{Expected, NoMemory}
use Rattle.tm_tmpl_types.specs.declared.template.SlotDecl.{SlotDecl}
use Rattle.tm_tmpl_types.specs.declared.template.BodyDecl.{BodyDecl}
use Rattle.tm_tmpl_types.specs.declared.template.CaseDecl.{CaseDecl}
use Rattle.tm_tmpl_types.specs.declared.template.WindowDecl.{WindowDecl}

-- how many tokens the first line has, with its line end
abbrev pub line_len : List Token → ℕ
line_len ts = min (prefix_len (λ t. not (is_line_end t.kind)) ts + 1) (length ts)

-- whether the first token is this word
unfoldable pub opens_with : List ℕ → List Token → List ℕ → Bool
opens_with text [] w = false
opens_with text (t ∷ ts) w = bytes_eq (take (t.to - t.from) (drop t.from text)) w

-- the place of the first token
abbrev pub first_at : List Token → Pos
first_at [] = record { line = 1; col = 1 }
first_at (t ∷ ts) = t.at

-- the statements of tokens behind what stands before them
unfoldable pub follows : List ℕ → List Token → Before → Result (List At) TmplFault
follows text tokens b = statements (token_lines (lexemes text tokens)) b

-- the statements, where only a case may come next
abbrev pub unless_case : List Token → Result (List At) TmplFault
unless_case [] = Ok []
unless_case (t ∷ ts) = Err (Expected t.at want.Statement)

-- the statements, where only a case may come next
unfoldable pub case_next : List ℕ → List Token → Result (List At) TmplFault
case_next text tokens = if opens_with text tokens (codes "case") then follows text tokens cases else unless_case tokens

-- the statements, where only a body or a case may come next
unfoldable pub body_next : List ℕ → List Token → Result (List At) TmplFault
body_next text tokens = if opens_with text tokens (codes "body") then follows text tokens cases
    else case_next text tokens

-- statements in front of others
abbrev pub more_all : List At → Result (List At) TmplFault → Result (List At) TmplFault
more_all ss (Ok more) = Ok (ss ++ more)
more_all ss (Err e) = Err e

-- the statements that parts of a template stand for, in order
abbrev pub window_at : WindowDecl → At
window_at w = (w.at, window w.number w.kind w.lines)

-- the statement of a slot
abbrev pub slot_at : SlotDecl → At
slot_at d = (d.at, slot d.what)

-- the statements of slots
abbrev pub slots_at : List SlotDecl → List At
slots_at [] = []
slots_at (d ∷ ds) = slot_at d ∷ slots_at ds

-- the statements of a body: its own, and those of its slots
abbrev pub body_at : BodyDecl → List At
body_at b = (b.at, body b.whom) ∷ slots_at b.slots

-- the statements of bodies
abbrev pub bodies_at : List BodyDecl → List At
bodies_at [] = []
bodies_at (b ∷ bs) = body_at b ++ bodies_at bs

-- the statements of a case: its own, and those of its bodies
abbrev pub case_at : CaseDecl → List At
case_at c = (c.at, case_of c.name) ∷ bodies_at c.bodies

-- the statements of cases
abbrev pub cases_at : List CaseDecl → List At
cases_at [] = []
cases_at (c ∷ cs) = case_at c ++ cases_at cs

-- the statements of windows
abbrev pub windows_at : List WindowDecl → List At
windows_at [] = []
windows_at (w ∷ ws) = window_at w ∷ windows_at ws

-- from these statements one part was read, with the tokens behind it; or there is none, and it stops; or there is a
-- fault
abbrev pub IsNext : {A : Type 0} → Result (List At) TmplFault → (A → List At)
    → (List Token → Result (List At) TmplFault) → Result (List At) TmplFault
    → Result (Option (A × Bor (List Token))) TmplFault → Type 0
IsNext from ats next stop (Ok (Some p)) = from ≡ more_all (ats p.0) (next p.1.now)
IsNext from ats next stop (Ok None) = from ≡ stop
IsNext from ats next stop (Err e) = e ≢ NoMemory → from ≡ Err e

-- what is left lies within the text, and is less
abbrev pub AllAndLess : (Token → Type 0) → List Token → List Token → Type 0
AllAndLess P tokens rest = All P rest × (length rest < length tokens)

-- where a part was read, what is left lies within the text, and is less
abbrev pub IsLeft : {A : Type 0} → (Token → Type 0) → List Token → Result (Option (A × Bor (List Token))) TmplFault
    → Type 0
IsLeft P tokens (Ok (Some p)) = AllAndLess P tokens p.1.now
IsLeft P tokens _ = Unit {0}
