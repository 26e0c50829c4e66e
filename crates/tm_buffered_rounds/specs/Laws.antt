-- Laws of buffered runs in rounds (this project's own).
use Rattle.std.specs.Prelude.{ℕ, ◌+◌, ◌*◌, ◌<◌, ◌≤◌, length}
use Rattle.tm_plan_cases.specs.declared.cases.Cases.{Cases}
use Rattle.tm_plan_cases.specs.declared.program.Program.{Program}
use Rattle.tm_plan_cases.specs.Collected.{round_cases, work_of, budget_of}
use Rattle.tm_world.specs.Place.{harts}
use Rattle.tm_world.specs.Run.{Run, own}
use Rattle.tm_world.specs.Kinds.{Legal}
use Rattle.tm_world.specs.Work.{work_steps}
use Rattle.tm_world.specs.Sound.{Sound}
use Rattle.tm_memory.specs.Meet.{AllMeet}
use Rattle.tm_rounds.specs.Laws.{SomeIsOff}
use Rattle.tm_buffered.specs.Moments.{Moments, Buffered, run_of, steps_of}
use Rattle.tm_buffered_rounds.specs.Turns.{Turns}

-- The events that are enough for a run in drawn rounds: the budget of a run in round order, and 64 for each hart, each
-- case and each of its passes.
unfoldable pub drawn_budget_of : Cases → ℕ
drawn_budget_of cases = budget_of cases + 64 * (cases.harts * (length (round_cases cases) * cases.passes))

-- A buffered run in rounds has fewer steps than that, as long as some hart isn't at halt.
abbrev pub RunsShort : Program → Type 0
RunsShort p = (m : Moments) → Buffered p m → (t h : ℕ) → Turns p m.opening t h m.list → SomeIsOff p (run_of m)
    → length (steps_of m.list) < drawn_budget_of p.cases

-- So it is where harts meet and work within their bounds,
abbrev pub DrawnBudget : Program → Type 0
DrawnBudget p = AllMeet p
    → ((h : ℕ) → h < harts p → (r : Run) → Legal p r → work_steps p h (own h r.steps) ≤ work_of p.cases h)
    → RunsShort p

-- and of a sound program.
abbrev pub SoundDrawnBudget : Program → Type 0
SoundDrawnBudget p = Sound p → RunsShort p
