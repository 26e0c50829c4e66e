-- The limits of work that the costs of the parts make up (this project's own).
use Rattle.std.specs.Prelude.{ℕ, ◌+◌, ◌*◌, ◌/◌, ◌%◌, ◌≤◌, ◌==◌, List, if◌then◌else◌}
use Rattle.tm_table.specs.State.{Hart}
use Rattle.tm_plan_cases.specs.declared.program.Program.{Program}
use Rattle.tm_world.specs.Place.{case_count, passes}
use Rattle.tm_world.specs.Run.{Step}
use Rattle.tm_stays.specs.Pace.{phase_work}
use Rattle.tm_pass_way.specs.Parts.{Costs, Rooms}
use Rattle.tm_stays.specs.Pace.{phase_work, Pace, KeepsPace}

-- what the parts of one pass cost
abbrev pub pace_of : Costs → Pace
pace_of cost = record {
  sets = cost.reset + cost.first + cost.meet;
  runs = cost.load + cost.save + cost.meet;
  ends = cost.collect + cost.turn;
  compares = cost.compare;
}

-- The limit of each phase: odd ones run a pass; phase 0 sets up the first; the others end a pass, compare where it
-- was the last of its case, and set up the next, but for the very last.
abbrev pub limit_at : Program → Pace → ℕ → ℕ
limit_at p pace q =
    if q % 2 == 1 then pace.runs
    else (if q == 0 then 64 + pace.sets
    else pace.ends + (if q / 2 % passes p == 0 then pace.compares else 0) + (if q == 2 * (case_count p * passes p)
    then 0 else pace.sets))

-- These limits have room for the parts, and a hart that keeps them keeps the pace.
pub record LimitsServe (p : Program) (cost : Costs) : Type 0 where
  pub rooms : Rooms p cost (limit_at p (pace_of cost))
  pub keeps : (h : ℕ) (first : Hart) (own : List Step)
      → ((q : ℕ) → phase_work p h first q own ≤ limit_at p (pace_of cost) q) → KeepsPace p h (pace_of cost) first own

-- Limits by phase that are made of costs serve each part.
abbrev pub LimitsAreServed : Program → Type 0
LimitsAreServed p = (cost : Costs) → cost.begin ≤ 64 → 2 ≤ passes p → LimitsServe p cost
