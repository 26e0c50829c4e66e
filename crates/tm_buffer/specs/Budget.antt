-- What a machine needs so that all harts come to halt in drawn rounds before its journal is full (this project's own).
use Rattle.std.specs.Prelude.{◌≤◌}
use Rattle.tm_world.specs.Sound.{Sound}
use Rattle.tm_buffered_rounds.specs.Laws.{drawn_budget_of}
use Rattle.tm_buffer.specs.Seen.{Seen}

-- The program is sound, and the limit is at least its budget of drawn rounds.
pub record HasBudget (g : Seen) : Type 0 where
  pub sound : Sound g.program
  pub room : drawn_budget_of g.program.cases ≤ g.limit
