-- What contracts see of a guest (this project's own).
use Rattle.std.specs.Prelude.{◌≡◌, ℕ, List, [], ◌∷◌, ◌++◌}
use Rattle.tm_table.specs.State.{Hart}
use Rattle.tm_plan_cases.specs.declared.program.Program.{Program}
use Rattle.tm_plan_cases.specs.declared.event.Event.{Event}
use Rattle.tm_plan_script.specs.declared.faults.FaultLine.{FaultLine}
use Rattle.tm_world.specs.Place.{halt_of}
use Rattle.tm_world.specs.Run.{Run, Step}
use Rattle.tm_world.specs.Replay.{steps_of, run_of, state_after}

-- the program, the lines of the script, the most events, and the events so far
pub record Guested : Type 0 where
  pub program : Program
  pub faults : List FaultLine
  pub limit : ℕ
  pub journal : List Event

-- the steps so far, the newest first
abbrev pub steps : Guested → List Step
steps g = steps_of g.program g.faults g.journal

-- the run so far
abbrev pub run : Guested → Run
run g = run_of g.program g.faults g.journal

-- the state of hart h: what replaying the journal gives
abbrev pub state : Guested → ℕ → Hart
state g h = state_after (steps g) h

-- hart h is at its halt mark
abbrev pub IsHalted : Guested → ℕ → Type 0
IsHalted g h = (state g h).pc ≡ halt_of g.program h

-- a guest before its first step
abbrev pub fresh : Program → List FaultLine → ℕ → Guested
fresh p lines limit = record { program = p; faults = lines; limit = limit; journal = [] }

-- the guest after one more event
abbrev pub with_event : Guested → Event → Guested
with_event g e = record { program = g.program; faults = g.faults; limit = g.limit; journal = g.journal ++ e ∷ [] }
