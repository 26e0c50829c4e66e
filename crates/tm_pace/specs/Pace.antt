-- That a pace lies within a hart's bound (this project's own).
use Rattle.std.specs.Prelude.{ℕ, ◌+◌, ◌*◌, ◌≤◌, length}
use Rattle.tm_plan_cases.specs.declared.program.Program.{Program}
use Rattle.tm_plan_cases.specs.Collected.{owned}
use Rattle.tm_world.specs.Place.{harts, passes}
use Rattle.tm_stays.specs.Pace.{Pace}

-- The pace lies within the hart's bound.
abbrev pub PaceFits : Program → ℕ → Pace → Type 0
PaceFits p h pace = passes p * (pace.sets + pace.runs + pace.ends) + pace.compares
    ≤ 64 + passes p * (256 + 32 * harts p + 32 * (30 + length (owned p.cases h)))
