-- Idle steps, the bound on all others, and harts that don't get stuck (this project's own).
use Rattle.std.specs.Prelude.{◌≡◌, ◌≢◌, ℕ, zero, suc, ◌+◌, ◌<◌, ◌≤◌, Bool, false, ◌&&◌, ◌||◌, not, nat_lt, ◌==◌, List}
use Rattle.std.specs.Prelude.{[], ◌∷◌, Some, None, if◌then◌else◌}
use Rattle.tm_table.specs.declared.state.Access.{Access}
use Rattle.tm_table.specs.declared.state.Access.TheVariants.{Quiet, Read, Write}
use Rattle.tm_table.specs.State.{Hart}
use Rattle.tm_table.specs.Row.{row_word}
use Rattle.tm_plan_cases.specs.declared.program.Program.{Program}
use Rattle.tm_plan_script.specs.declared.faults.FaultLine.{FaultLine}
use Rattle.tm_plan_script.specs.Accepted.{AreAccepted}
use Rattle.tm_plan_map.specs.Map.{flag_at}
use Rattle.tm_plan_cases.specs.Collected.{work_of}
use Rattle.tm_base.specs.Lists.{any, count_from}
use Rattle.tm_world.specs.Place.{harts, halt_of, exit_of, word_at}
use Rattle.tm_world.specs.Run.{Step, Run, own, now, phase, access_of}
use Rattle.tm_world.specs.Kinds.{Legal, IsPossible, first_of_hart, stream_at}
use Rattle.tm_world.specs.Course.{OnHalf, signals, this_phase}
use Rattle.tm_world.specs.Script.{FaultedRun}

-- it reads the 8 bytes at a, and gets less than most
abbrev pub gets_less : ℕ → ℕ → Access → Bool
gets_less a most (Read addr width value) = (addr == a) && ((width == 8) && nat_lt value most)
gets_less a most Quiet = false
gets_less a most (Write addr width value) = false

-- An idle read: hart h has signalled in its phase q, and finds another hart's flag below q + 1.
abbrev pub is_idle_read : Program → ℕ → List Step → Step → Bool
is_idle_read p h past s = any (signals h) (this_phase p h past)
    && any (λ g. not (g == h) && gets_less (flag_at g) (phase (exit_of p h) past + 1) (access_of s))
    (count_from 0 (harts p))

-- one of the n newest steps is an idle read
abbrev pub idle_lately : Program → ℕ → ℕ → List Step → Bool
idle_lately p h zero own = false
idle_lately p h (suc n) [] = false
idle_lately p h (suc n) (s ∷ past) = is_idle_read p h past s || idle_lately p h n past

-- How many of hart h's own steps are work: no idle read, and none of the three next steps after one.
abbrev pub work_steps : Program → ℕ → List Step → ℕ
work_steps p h [] = 0
work_steps p h (s ∷ past) = if idle_lately p h 4 (s ∷ past) then work_steps p h past else suc (work_steps p h past)

-- A hart in this state has a next step, whatever a read returns.
abbrev pub HasNext : Program → Hart → Type 0
HasNext p hart = (word : ℕ) × (word_at p hart.pc ≡ Some word)
    × ((read : ℕ) → (after : Hart) × (access : Access) × (row_word hart word read ≡ Some (after, access))
    × IsPossible access)

-- A hart outside streams and not at halt has a next step.
abbrev pub GoesOn : Program → ℕ → Hart → List Step → Type 0
GoesOn p h first own = stream_at p h (now first own).pc ≡ None → (now first own).pc ≢ halt_of p h
    → HasNext p (now first own)

-- A hart not at halt has a next step, inside its streams too.
abbrev pub GoesOnAlways : Program → ℕ → Hart → List Step → Type 0
GoesOnAlways p h first own = (now first own).pc ≢ halt_of p h → HasNext p (now first own)

-- Each hart that isn't at halt has a next step in the run.
abbrev pub GoOn : Program → Run → Type 0
GoOn p r = (h : ℕ) → h < harts p → GoesOnAlways p h (first_of_hart r h) (own h r.steps)

-- No hart gets stuck under the script: on each run that it has changed, each hart that isn't at its halt mark has a
-- next step.
abbrev pub NeverStuck : Program → List FaultLine → Type 0
NeverStuck p lines = (r : Run) → FaultedRun p lines r → GoOn p r

-- On each run that an accepted script has changed P holds of hart h's first state and its own steps.
abbrev pub OnFaulted : Program → ℕ → (Hart → List Step → Type 0) → Type 0
OnFaulted p h P = (lines : List FaultLine) → AreAccepted p.cases lines → (r : Run) → FaultedRun p lines r
    → P (first_of_hart r h) (own h r.steps)

-- Hart h has made at most so many work steps.
abbrev pub WorksWithin : Program → ℕ → Hart → List Step → Type 0
WorksWithin p h first own = work_steps p h own ≤ work_of p.cases h

-- The bound of hart h: on a legal run, and on a run that an accepted script has changed, it makes at most so many
-- work steps; on a half run it doesn't get stuck outside streams, and on a run that an accepted script has changed it
-- doesn't get stuck at all.
pub record Bound (p : Program) (h : ℕ) : Type 0 where
  pub work : (r : Run) → Legal p r → work_steps p h (own h r.steps) ≤ work_of p.cases h
  pub next : OnHalf p h (GoesOn p h)
  pub faulted_work : OnFaulted p h (WorksWithin p h)
  pub faulted_next : OnFaulted p h (GoesOnAlways p h)
