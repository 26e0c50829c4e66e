-- The run that a journal stands for: the one whose opening registers are zero but x10, and whose events are those of
-- the journal. The events, the program and the script fix its steps (this project's own).
use Rattle.std.specs.Prelude.{ℕ, List, [], ◌∷◌, Option, Some, None, reverse, replicate, slice_set}
use Rattle.tm_table.specs.declared.instr.Instr.{Instr}
use Rattle.tm_table.specs.declared.state.Access.{Access}
use Rattle.tm_table.specs.State.{Hart}
use Rattle.tm_table.specs.Row.{row_word}
use Rattle.tm_plan_map.specs.Slots.{instr_of}
use Rattle.tm_plan_cases.specs.declared.program.Program.{Program}
use Rattle.tm_plan_cases.specs.declared.event.Event.{Event}
use Rattle.tm_plan_script.specs.declared.faults.FaultLine.{FaultLine}
use Rattle.tm_world.specs.Place.{exit_of}
use Rattle.tm_world.specs.Run.{Step, Run, own, now, phase, first_state, read_value}
use Rattle.tm_world.specs.Kinds.{stream_at}
use Rattle.tm_world.specs.Faulted.{Change, state_by}
use Rattle.tm_world.specs.Script.{change_of}

-- the registers with which hart h opens: zero, but x10, which is its number
unfoldable pub opening : ℕ → List ℕ
opening h = slice_set (replicate 32 0) 10 h

-- the state of hart h after these steps of all harts
abbrev pub state_after : List Step → ℕ → Hart
state_after steps h = now (first_state (opening h)) (own h steps)

-- ---- one step

-- the state that a row gives, and the old one where no row has the word
abbrev pub outcome : Hart → Option (Hart × Access) → Hart
outcome before None = before
outcome before (Some made) = made.0

-- what a change makes of the state that the row of a word gives, where the word has one
abbrev pub changed_by : Change → Hart → Option Instr → Hart → Hart
changed_by change before None clean = clean
changed_by change before (Some i) clean = state_by change i before clean

-- Inside a stream the change is made, and outside streams none is.
abbrev pub left_in : Option ℕ → Change → Hart → Option Instr → Hart → Hart
left_in None change before i clean = clean
left_in (Some c) change before i clean = changed_by change before i clean

-- the change that the lines make to the next step of hart h, after these steps of all harts
abbrev pub change_next : Program → List FaultLine → List Step → ℕ → Change
change_next p lines past h = change_of p lines h (phase (exit_of p h) (own h past)) (state_after past h).pc

-- the state after an event of a hart with this state before it, inside the stream of a case or outside streams
abbrev pub left_by : Option ℕ → Change → Hart → Event → Hart
left_by c change before e =
    left_in c change before (instr_of e.word) (outcome before (row_word before e.word (read_value e.access)))

-- the step of an event, after these steps of all harts
abbrev pub stepped : Program → List FaultLine → List Step → Event → Step
stepped p lines past e = record {
  event = e;
  after = left_by (stream_at p e.hart (state_after past e.hart).pc) (change_next p lines past e.hart)
      (state_after past e.hart) e;
}

-- ---- all steps

-- the steps of these events, both the newest first
abbrev pub replay : Program → List FaultLine → List Event → List Step
replay p lines [] = []
replay p lines (e ∷ past) = stepped p lines (replay p lines past) e ∷ replay p lines past

-- the steps of a journal, the newest first
unfoldable pub steps_of : Program → List FaultLine → List Event → List Step
steps_of p lines events = replay p lines (reverse events)

-- the run that a journal stands for
abbrev pub run_of : Program → List FaultLine → List Event → Run
run_of p lines events = record { opening = opening; steps = steps_of p lines events }
