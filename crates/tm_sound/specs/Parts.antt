-- What makes a program sound, hart by hart (this project's own).
use Rattle.std.specs.Prelude.{◌≡◌, ℕ, ◌<◌}
use Rattle.tm_plan_cases.specs.declared.program.Program.{Program}
use Rattle.tm_plan_cases.specs.Shaped.{IsProgram, IsTyped}
use Rattle.tm_plan_cases.specs.Tables.{table_bytes}
use Rattle.tm_world.specs.Place.{harts}
use Rattle.tm_world.specs.Course.{OnHalf, HartCourse}
use Rattle.tm_world.specs.Whole.{Laid}
use Rattle.tm_world.specs.Work.{GoesOn}
use Rattle.tm_world.specs.Verdict.{WritesExactly}
use Rattle.tm_world.specs.Checked.{AreChecked}
use Rattle.tm_meet.specs.First.{SetsFirst}
use Rattle.tm_pace.specs.Pace.{PaceFits}
use Rattle.tm_stays.specs.Pace.{Pace, KeepsPace}

-- What hart h keeps on half runs.
pub record HartParts (p : Program) (h : ℕ) : Type 0 where
  pub course : HartCourse p h
  pub first : SetsFirst p h
  pub exact : OnHalf p h (WritesExactly p h)
  pub next : OnHalf p h (GoesOn p h)
  pub pace : Pace
  pub fits : PaceFits p h pace
  pub keeps : OnHalf p h (KeepsPace p h pace)

-- The parts of a sound program: it is a program with what the types of its parts give, its text has its marks and
-- streams where they belong, its masks are the checked sets, its tables those of the format, and its harts keep their
-- parts.
pub record SoundParts (p : Program) : Type 0 where
  pub program : IsProgram p
  pub typed : IsTyped p
  pub laid : Laid p
  pub masks : AreChecked p.cases p.masks
  pub tables : p.tables ≡ table_bytes p.cases p.masks
  pub each : (h : ℕ) → h < harts p → HartParts p h
