-- What a guest needs so that all harts come to halt in round order before its journal is full (this project's own).
use Rattle.std.specs.Prelude.{ℕ, ◌<◌, ◌≤◌}
use Rattle.tm_plan_cases.specs.Collected.{budget_of}
use Rattle.tm_plan_cases.specs.Shaped.{IsProgram, IsTyped}
use Rattle.tm_plan_script.specs.Accepted.{AreAccepted}
use Rattle.tm_world.specs.Place.{harts}
use Rattle.tm_world.specs.Whole.{Course}
use Rattle.tm_world.specs.Work.{Bound}
use Rattle.tm_pace.specs.Laws.{NoIdleRead}
use Rattle.tm_guest.specs.Guested.{Guested, steps}

-- The program, with its shape and what the types of its fields give, keeps the course and the bound; the script is
-- accepted over its cases; no step so far is an idle read; and the limit is at least the program's budget.
pub record HasBudget (g : Guested) : Type 0 where
  pub program : IsProgram g.program
  pub typed : IsTyped g.program
  pub course : Course g.program
  pub bound : (h : ℕ) → h < harts g.program → Bound g.program h
  pub script : AreAccepted g.program.cases g.faults
  pub no_idle : NoIdleRead g.program (steps g)
  pub room : budget_of g.program.cases ≤ g.limit
