-- The text of a trace (this project's own).
use Rattle.std.specs.Prelude.{ℕ, List, [], ◌∷◌, ◌++◌, length, codes}
use Rattle.std.specs.Fmt.{decimal}
use Rattle.tm_base.specs.Numbers.{hex_text}
use Rattle.tm_table.specs.declared.state.Access.{Access}
use Rattle.tm_table.specs.declared.state.Access.TheVariants.{Quiet, Read, Write}
use Rattle.tm_plan_cases.specs.declared.event.Event.{Event}

-- where an access reads or writes: its address, its width, and its value, the raw bytes as a little-endian number
unfoldable pub place_text : (addr width value : ℕ) → List ℕ
place_text addr width value = hex_text 16 addr ++ codes " " ++ decimal width ++ codes " " ++ hex_text 16 value

-- an access: none, a read or a write
abbrev pub access_text : Access → List ℕ
access_text Quiet = codes "-"
access_text (Read addr width value) = codes "r " ++ place_text addr width value
access_text (Write addr width value) = codes "w " ++ place_text addr width value

-- the line of an event: its hart, program counter and word, and its access
unfoldable pub event_text : Event → List ℕ
event_text e = decimal e.hart ++ codes " " ++ hex_text 16 e.pc ++ codes " " ++ hex_text 8 e.word ++ codes " "
    ++ access_text e.access ++ codes "\n"

-- the lines of events
abbrev pub events_text : List Event → List ℕ
events_text [] = []
events_text (e ∷ more) = event_text e ++ events_text more

-- the first line: the version of the form, the number of harts and of events
unfoldable pub head_text : ℕ → ℕ → List ℕ
head_text harts events = codes "trace 1 harts " ++ decimal harts ++ codes " events " ++ decimal events ++ codes "\n"

-- the whole text: the first line, a line for each event in order, and `end`
unfoldable pub trace_text : ℕ → List Event → List ℕ
trace_text harts events = head_text harts (length events) ++ events_text events ++ codes "end\n"
