-- The run that a list of events records: the one whose opening registers are zero but x10, and whose events are those.
-- The events fix its steps (this project's own).
use Rattle.std.specs.Prelude.{ℕ, List, [], ◌∷◌, reverse}
use Rattle.tm_table.specs.Row.{row_word}
use Rattle.tm_plan_cases.specs.declared.event.Event.{Event}
use Rattle.tm_world.specs.Run.{Step, Run, read_value}
use Rattle.tm_world.specs.Replay.{opening, state_after, outcome}

-- The step of an event, after these steps of all harts: its hart's state after it is the one that the row of its word
-- gives, with what it read.
abbrev pub step_of : List Step → Event → Step
step_of past e = record {
  event = e;
  after = outcome (state_after past e.hart) (row_word (state_after past e.hart) e.word (read_value e.access));
}

-- the steps of these events, both the newest first
abbrev pub recorded : List Event → List Step
recorded [] = []
recorded (e ∷ past) = step_of (recorded past) e ∷ recorded past

-- the steps of events in order, the newest first
unfoldable pub steps_of : List Event → List Step
steps_of events = recorded (reverse events)

-- a run with these steps
abbrev pub opened : List Step → Run
opened steps = record { opening = opening; steps = steps }

-- the recorded run
abbrev pub run_of : List Event → Run
run_of events = opened (steps_of events)
