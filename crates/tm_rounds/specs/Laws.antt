-- Laws of runs in round order (this project's own).
use Rattle.std.specs.Prelude.{ℕ, ◌<◌, ◌≤◌, List, length}
use Rattle.tm_plan_cases.specs.declared.program.Program.{Program}
use Rattle.tm_plan_cases.specs.Collected.{work_of, budget_of}
use Rattle.tm_plan_cases.specs.Shaped.{IsProgram, IsTyped}
use Rattle.tm_plan_script.specs.declared.faults.FaultLine.{FaultLine}
use Rattle.tm_world.specs.Place.{harts}
use Rattle.tm_world.specs.Run.{Step, Run, own}
use Rattle.tm_world.specs.Whole.{Course}
use Rattle.tm_world.specs.Work.{Bound, work_steps}
use Rattle.tm_memory.specs.Meet.{AllMeet}
use Rattle.tm_memory.specs.Memory.{OneMemory}
use Rattle.tm_meet.specs.Waits.{IsHalted}
use Rattle.tm_world.specs.Script.{FaultedRun}
use Rattle.tm_plan_script.specs.Accepted.{AreAccepted}
use Rattle.tm_pace.specs.Laws.{NoIdleRead}
use Rattle.tm_rounds.specs.Turns.{Turns}

-- some hart isn't at halt
abbrev pub SomeIsOff : Program → Run → Type 0
SomeIsOff p r = (h : ℕ) × (h < harts p) × (¬ IsHalted p r h)

-- A run of one memory in which each hart works within its bound, and which in round order goes on from steps without
-- an idle read, has fewer steps than the budget where some hart isn't at halt.
abbrev pub RoundsAreShort : Program → Type 0
RoundsAreShort p = AllMeet p → (r : Run) → OneMemory p r
    → ((h : ℕ) → h < harts p → work_steps p h (own h r.steps) ≤ work_of p.cases h) → (from : List Step)
    → NoIdleRead p from → (h : ℕ) → Turns p r.opening from h r.steps → SomeIsOff p r
    → length r.steps < budget_of p.cases

-- So has a run of a program that keeps the course and the bound, under any script that is accepted.
abbrev pub RoundBudget : Program → Type 0
RoundBudget p = IsProgram p → IsTyped p → Course p → ((h : ℕ) → h < harts p → Bound p h)
    → (lines : List FaultLine) → AreAccepted p.cases lines → (r : Run) → FaultedRun p lines r → (from : List Step)
    → NoIdleRead p from → (h : ℕ) → Turns p r.opening from h r.steps → SomeIsOff p r
    → length r.steps < budget_of p.cases
