-- A sound program (this project's own).
use Rattle.std.specs.Prelude.{◌≡◌, ℕ, ◌<◌, List}
use Rattle.tm_plan_cases.specs.declared.program.Program.{Program}
use Rattle.tm_plan_cases.specs.Shaped.{IsProgram, IsTyped}
use Rattle.tm_plan_cases.specs.Tables.{table_bytes}
use Rattle.tm_plan_script.specs.declared.faults.FaultLine.{FaultLine}
use Rattle.tm_plan_script.specs.Accepted.{AreAccepted}
use Rattle.tm_world.specs.Place.{harts}
use Rattle.tm_world.specs.Run.{Run}
use Rattle.tm_world.specs.Kinds.{Legal, Plain, Half}
use Rattle.tm_world.specs.Course.{OnHalf}
use Rattle.tm_world.specs.Whole.{Course}
use Rattle.tm_world.specs.Script.{FaultedRun}
use Rattle.tm_world.specs.Work.{Bound}
use Rattle.tm_world.specs.Verdict.{WritesExactly}
use Rattle.tm_world.specs.Checked.{AreChecked}
use Rattle.tm_world.specs.Reported.{NotReported}

-- A sound program: its numbers lie in the ranges of their types, its masks are exactly the checked sets, its tables
-- those of the format, it keeps the course and the bound; on a legal run no case is reported; on a half run each
-- verdict is the true one; each plain run is legal; and each run that an accepted script has changed is a half run.
pub record Sound (p : Program) : Type 0 where
  pub program : IsProgram p
  pub typed : IsTyped p
  pub masks : AreChecked p.cases p.masks
  pub tables : p.tables ≡ table_bytes p.cases p.masks
  pub course : Course p
  pub bound : (h : ℕ) → h < harts p → Bound p h
  pub silent : (r : Run) → Legal p r → NotReported p r
  pub exact : (h : ℕ) → h < harts p → OnHalf p h (WritesExactly p h)
  pub plain : (r : Run) → Plain p r → Legal p r
  pub faulted : (lines : List FaultLine) → AreAccepted p.cases lines → (r : Run) → FaultedRun p lines r → Half p r
