-- What each hart keeps on half runs, so that the harts of a program meet at their barrier (this project's own).
use Rattle.std.specs.Prelude.{ℕ, ◌<◌}
use Rattle.tm_plan_cases.specs.declared.program.Program.{Program}
use Rattle.tm_world.specs.Place.{harts}
use Rattle.tm_world.specs.Course.{OnHalf, KeepsOrder, EntersFresh, KeepsWrites, KeepsBarrier}
use Rattle.tm_legal.specs.Tame.{Formed}

-- On half runs hart h comes to its marks in order, enters its streams with fresh registers, writes outside streams
-- only what it may, and keeps the barrier.
pub record Meets (p : Program) (h : ℕ) : Type 0 where
  pub order : OnHalf p h (KeepsOrder p h)
  pub fresh : OnHalf p h (EntersFresh p h)
  pub writes : OnHalf p h (KeepsWrites p h)
  pub barrier : OnHalf p h (KeepsBarrier p h)

-- A formed program, each of whose harts does so.
pub record AllMeet (p : Program) : Type 0 where
  pub formed : Formed p
  pub each : (h : ℕ) → h < harts p → Meets p h
