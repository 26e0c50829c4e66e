-- A journal (this project's own).
use Rattle.std.specs.Prelude.{ℕ, List}
use Rattle.tm_plan_cases.specs.declared.event.Event.{Event}

-- the events in order, and for how many there is room
pub record Journaled : Type 0 where
  pub events : List Event
  pub room : ℕ
