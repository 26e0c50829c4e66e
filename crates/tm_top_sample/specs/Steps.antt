-- What the steps of a sample leave (this project's own).
use Rattle.std.specs.Prelude.{ℕ, List, []}
use Rattle.tm_base.specs.declared.limits.TheConstants.{DEFAULT_EVENTS}
use Rattle.tm_top_owed.specs.Owed.{IsSummed}
use Rattle.tm_top_owed.specs.Runs.{guest_of, IsRunUnder, IsRoundOrder}
use Rattle.tm_plan_cases.specs.declared.program.Program.{Program}
use Rattle.tm_plan_cases.specs.declared.event.Event.{Event}

-- A simulation of a program in round order that makes these events, and how it is told as the one of a sample.
pub record IsSummary (number : ℕ) (p : Program) (events : List Event) (text : List ℕ) (status : ℕ) : Type 0 where
  pub simulated : IsRunUnder p [] DEFAULT_EVENTS events
  pub in_order : IsRoundOrder p [] DEFAULT_EVENTS events
  pub told : IsSummed number (guest_of p [] DEFAULT_EVENTS events) text status
