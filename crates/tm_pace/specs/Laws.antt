-- Laws of how much harts work (this project's own).
use Rattle.std.specs.Prelude.{◌^◌, ℕ, suc, ◌+◌, ◌*◌, ◌<◌, ◌≤◌, List, length, IsFalse}
use Rattle.tm_plan_cases.specs.declared.program.Program.{Program}
use Rattle.tm_plan_cases.specs.Collected.{sum_of, work_of, budget_of}
use Rattle.tm_base.specs.Lists.{count_from}
use Rattle.tm_world.specs.Place.{harts, passes, exit_of}
use Rattle.tm_world.specs.Run.{Step, Run, Always, hart_of, own, phase}
use Rattle.tm_world.specs.Course.{OnHalf, last_phase}
use Rattle.tm_world.specs.Work.{is_idle_read, work_steps, GoesOn, Bound}
use Rattle.tm_legal.specs.Laws.{OnLegal}
use Rattle.tm_stays.specs.Stays.{words_in}
use Rattle.tm_memory.specs.Meet.{Meets, AllMeet}
use Rattle.tm_memory.specs.Memory.{OneMemory}
use Rattle.tm_world.specs.Faulted.{Change, Faulted}
use Rattle.tm_pace.specs.Pace.{PaceFits}
use Rattle.tm_stays.specs.Pace.{phase_work, Pace, KeepsPace}

-- On half runs a hart that keeps the barrier never leaves the last phase.
abbrev pub PhasesEnd : Program → Type 0
PhasesEnd p = (h : ℕ) → Meets p h → OnHalf p h (λ first own. phase (exit_of p h) own ≤ last_phase p)

-- Where the work outside streams in each phase q is at most most q on half runs, all work on legal runs is at most
-- their sum and the words of the streams.
abbrev pub PhasesAddUp : Program → Type 0
PhasesAddUp p = AllMeet p → (h : ℕ) → h < harts p → (most : ℕ → ℕ)
    → OnHalf p h (λ first own. (q : ℕ) → q ≤ last_phase p → phase_work p h first q own ≤ most q)
    → OnLegal p h (λ first own. work_steps p h own
    ≤ sum_of most (count_from 0 (suc (last_phase p))) + passes p * words_in h p.cases.cases)

-- A hart that keeps a pace which fits, and on half runs doesn't get stuck outside streams, keeps its bound, also on
-- runs that an accepted script has changed.
abbrev pub PaceBounds : Program → Type 0
PaceBounds p = AllMeet p → (h : ℕ) → h < harts p → (pace : Pace) → PaceFits p h pace → OnHalf p h (KeepsPace p h pace)
    → OnHalf p h (GoesOn p h) → Bound p h

-- On each run of one memory, too, a hart that keeps a pace which fits works within its bound.
abbrev pub PaceHolds : Program → Type 0
PaceHolds p = AllMeet p → (h : ℕ) → h < harts p → (pace : Pace) → PaceFits p h pace → OnHalf p h (KeepsPace p h pace)
    → (r : Run) → OneMemory p r → work_steps p h (own h r.steps) ≤ work_of p.cases h

-- So on each run in which steps of streams are changed.
abbrev pub FaultedPaceHolds : Program → Type 0
FaultedPaceHolds p = AllMeet p → (h : ℕ) → h < harts p → (pace : Pace) → PaceFits p h pace
    → OnHalf p h (KeepsPace p h pace)
    → (change : ℕ → ℕ → ℕ → Change) → ((g q pc : ℕ) → (change g q pc).result < 2 ^ 64)
    → (r : Run) → Faulted p change r → work_steps p h (own h r.steps) ≤ work_of p.cases h

-- None of these steps is an idle read, told of each step by its hart's own steps before it.
abbrev pub NoIdleRead : Program → List Step → Type 0
NoIdleRead p = Always (λ past s. IsFalse (is_idle_read p (hart_of s) (own (hart_of s) past) s))

-- A run in which no hart reads idly, and each works within its bound, has at most as many steps as all harts may
-- work, and so no more than the budget.
abbrev pub QuietRunsEnd : Program → Type 0
QuietRunsEnd p = 1 ≤ harts p → (r : Run) → Always (λ past s. hart_of s < harts p) r.steps
    → ((h : ℕ) → h < harts p → work_steps p h (own h r.steps) ≤ work_of p.cases h)
    → NoIdleRead p r.steps
    → (length r.steps ≤ sum_of (work_of p.cases) (count_from 0 (harts p))) × (length r.steps ≤ budget_of p.cases)
