-- Where the barrier's words stand, and the places from which it is called (this project's own).
use Rattle.std.specs.Prelude.{◌≡◌, ◌⊎◌, ℕ, ◌+◌, ◌*◌, ◌%◌, ◌<◌, ◌≤◌, length, Some}
use Rattle.tm_plan_cases.specs.declared.program.Program.{Program}
use Rattle.tm_world.specs.Place.{harts, case_count, start_of, end_of, exit_of, halt_of}
use Rattle.tm_runs.specs.Runs.{At}
use Rattle.tm_runs.specs.World.{support_at}
use Rattle.tm_pass_text.specs.Words.{call}
use Rattle.tm_barrier.specs.Words.{meet, barrier}

-- The barrier of hart h stands from this address on, behind all its streams and its halt mark, and its last word at
-- the exit mark.
pub record BarrierSite (p : Program) (h entry : ℕ) : Type 0 where
  pub code : At (support_at p h) entry (barrier h (harts p))
  pub exit : entry + 4 * length (meet h (harts p)) + 4 ≡ exit_of p h
  pub some : (d : ℕ) → d < case_count p → start_of p h d ≤ end_of p h d
  pub streams : (d : ℕ) → d < case_count p → end_of p h d < entry
  pub halt : halt_of p h < entry

-- A call of it stands at a place, and the hart comes back at the next word.
pub record CallSite (p : Program) (h entry place link : ℕ) : Type 0 where
  pub far : ℕ
  pub code : support_at p h place ≡ Some (call far)
  pub reach : place + far ≡ entry
  pub next : link ≡ place + 4
  pub even : link % 2 ≡ 0
  pub before : link < halt_of p h
  pub streams : (d : ℕ) → d < case_count p → (link < start_of p h d) ⊎ (end_of p h d ≤ place)
