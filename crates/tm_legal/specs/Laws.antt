-- Laws of legal runs: they are half runs (this project's own).
use Rattle.std.specs.Prelude.{ℕ, ◌<◌, List}
use Rattle.tm_table.specs.State.{Hart}
use Rattle.tm_plan_cases.specs.declared.program.Program.{Program}
use Rattle.tm_plan_cases.specs.Shaped.{IsProgram, IsTyped}
use Rattle.tm_world.specs.Place.{harts}
use Rattle.tm_world.specs.Run.{Step, Run, own}
use Rattle.tm_world.specs.Kinds.{Legal, Half, Plain, HalfPath, first_of_hart}
use Rattle.tm_world.specs.Course.{HartCourse}
use Rattle.tm_world.specs.Whole.{Course}
use Rattle.tm_world.specs.Sound.{Sound}
use Rattle.tm_legal.specs.Tame.{Formed, Tame}

-- On each legal run P holds of hart h's first state and its own steps.
abbrev pub OnLegal : Program → ℕ → (Hart → List Step → Type 0) → Type 0
OnLegal p h P = (r : Run) → Legal p r → P (first_of_hart r h) (own h r.steps)

-- A hart that keeps the course is tame.
abbrev pub CourseIsTame : Program → Type 0
CourseIsTame p = Formed p → (h : ℕ) → HartCourse p h → Tame p h

-- Each legal run of a program whose harts are all tame is a half run.
abbrev pub LegalRunsAreHalf : Program → Type 0
LegalRunsAreHalf p = Formed p → ((h : ℕ) → h < harts p → Tame p h) → (r : Run) → Legal p r → Half p r

-- The same of one hart: on a legal run a tame hart's own steps are those of a half run.
abbrev pub LegalStepsAreHalf : Program → Type 0
LegalStepsAreHalf p = Formed p → (h : ℕ) → h < harts p → Tame p h → OnLegal p h (HalfPath p h)

-- So each legal run of a program that keeps the course is a half run,
abbrev pub CourseRunsAreHalf : Program → Type 0
CourseRunsAreHalf p = IsProgram p → IsTyped p → Course p → (r : Run) → Legal p r → Half p r

-- and each legal run of a sound program.
abbrev pub SoundRunsAreHalf : Program → Type 0
SoundRunsAreHalf p = Sound p → (r : Run) → Legal p r → Half p r

-- Each plain run of a sound program is legal, and a half run.
abbrev pub SoundPlainRuns : Program → Type 0
SoundPlainRuns p = Sound p → (r : Run) → Plain p r → Legal p r × Half p r
