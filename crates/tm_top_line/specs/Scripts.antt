-- How the faults of a script are told: the names of a fault's variants from outside in, each with its values. Source:
-- this project.
use Rattle.std.specs.Prelude.{ℕ, Bool, true, false, List, [], ◌++◌, codes}
use Rattle.std.specs.Fmt.{decimal}
use Rattle.tm_base.specs.declared.Pos.{Pos}
use Rattle.tm_base.specs.Numbers.{pos_text}
use Rattle.tm_lex.specs.declared.token.LexFault.TheVariants as lex
use Rattle.tm_fault.specs.declared.fault.Want2.{Want2}
use Rattle.tm_fault.specs.declared.fault.Want2.TheVariants as want
use Rattle.tm_fault.specs.declared.fault.FaultScriptFault.{FaultScriptFault}
use Rattle.tm_fault.specs.declared.fault.FaultScriptFault.TheVariants as script
use Rattle.tm_top_line.specs.Inputs.{lex_text}

-- what was wanted (this project)
abbrev pub want_text : Want2 → List ℕ
want_text want.Word = codes "Word"
want_text want.Number = codes "Number"
want_text want.Action = codes "Action"
want_text want.LineEnd = codes "LineEnd"

-- a variant's name and its place (this project)
abbrev pub place_text : List ℕ → Pos → List ℕ
place_text name pos = name ++ codes " " ++ pos_text pos

-- a number, behind a space (this project)
abbrev pub number_text : ℕ → List ℕ
number_text n = codes " " ++ decimal n

-- the fault of a script; want of memory has no text (this project)
abbrev pub script_text : FaultScriptFault → List ℕ
script_text (script.Lex fault) = codes "Lex " ++ lex_text fault
script_text (script.Expected pos what) = place_text (codes "Expected") pos ++ codes " " ++ want_text what
script_text (script.OutOfRange pos value) = place_text (codes "OutOfRange") pos ++ number_text value
script_text (script.NoEffect pos) = place_text (codes "NoEffect") pos
script_text (script.Twice pos) = place_text (codes "Twice") pos
script_text script.NoMemory = []

-- the fault is want of memory, which has another line (this project)
abbrev pub script_wants : FaultScriptFault → Bool
script_wants (script.Lex lex.NoMemory) = true
script_wants script.NoMemory = true
script_wants _ = false
