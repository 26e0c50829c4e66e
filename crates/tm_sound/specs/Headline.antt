-- What is promised of a sound program, in its own words (this project's own).
use Rattle.std.specs.Prelude.{◌≡◌, ◌↔◌, ℕ, ◌<◌, List, Some}
use Rattle.tm_plan_cases.specs.declared.program.Program.{Program}
use Rattle.tm_plan_script.specs.declared.faults.FaultLine.{FaultLine}
use Rattle.tm_plan_script.specs.Accepted.{AreAccepted}
use Rattle.tm_world.specs.Place.{harts, round_count, case_of_round, passes}
use Rattle.tm_world.specs.Run.{Run}
use Rattle.tm_world.specs.Kinds.{Legal, Plain, Half}
use Rattle.tm_world.specs.Script.{FaultedRun}
use Rattle.tm_world.specs.Verdict.{Part}
use Rattle.tm_world.specs.Reported.{AllAtHalt, IsReported, Differs, IsChecked, end_in}
use Rattle.tm_world.specs.Sound.{Sound}

-- On each legal run, whatever its racing reads return, no round case is reported. On each half run at whose end all
-- harts are at halt, a round case is reported exactly where some checked register or shared byte, one that depends on
-- no race, has end values that differ between two passes; and there each of them has an end value in each pass. Each
-- plain run is legal, and a half run; and each run that an accepted script has changed is a half run.
pub record Headline (p : Program) : Type 0 where
  pub silent : (r : Run) → Legal p r → (e : ℕ) → e < round_count p → ¬ IsReported p r e
  pub exact : (r : Run) → Half p r → AllAtHalt p r → (e : ℕ) → e < round_count p → IsReported p r e ↔ Differs p r e
  pub ends : (r : Run) → Half p r → AllAtHalt p r → (e h k : ℕ) (part : Part) → e < round_count p → h < harts p
      → k < passes p → IsChecked p.cases (case_of_round p e) h part → (u : ℕ) × (end_in p r e h k part ≡ Some u)
  pub plain : (r : Run) → Plain p r → Legal p r × Half p r
  pub faulted : (lines : List FaultLine) → AreAccepted p.cases lines → (r : Run) → FaultedRun p lines r → Half p r

-- It holds of each sound program.
abbrev pub SoundHasHeadline : Program → Type 0
SoundHasHeadline p = Sound p → Headline p
