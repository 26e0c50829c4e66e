-- What the steps of a build leave (this project's own).
use Rattle.std.specs.Prelude.{◌≡◌, ◌≤◌, ℕ, Bool, false, List, length, IsTrue, None, Some, Result, Err}
use Rattle.tm_base.specs.declared.limits.TheConstants.{TOPOLOGY_BYTES}
use Rattle.tm_desk.specs.Causes.{Files}
use Rattle.tm_plan_map.specs.declared.admitted.Admitted.{Admitted}
use Rattle.tm_refusals.specs.declared.role.Role.TheVariants as roles
use Rattle.tm_refusals.specs.declared.inputs.InputFault.{InputFault}
use Rattle.tm_image_inputs.specs.Inputs.{topology_refusal}
use Rattle.tm_top_line.specs.declared.fault.AnyFault.TheVariants.{Input}
use Rattle.tm_top_owed.specs.declared.stop.Stop.{Stop}
use Rattle.tm_top_owed.specs.declared.stop.Stop.TheVariants as stop
use Rattle.tm_words.specs.declared.command.Build.{Build}
use Rattle.tm_top_line.specs.Lines.{wants_memory}

-- The topology is held, within its limit and accepted.
pub record IsTopology (b : Build) (tells : Bool) (held : Files) (text : List ℕ) : Type 0 where
  pub there : IsTrue tells → held b.topo ≡ Some text
  pub short : length text ≤ TOPOLOGY_BYTES
  pub accepted : topology_refusal text ≡ None

-- why no image is built of two texts
abbrev pub ImageStop : Stop → Result Admitted InputFault → Type 0
ImageStop (stop.Refused by fault) reading =
    (refusal : InputFault) × (reading ≡ Err refusal) × (by ≡ roles.Template)
    × (fault ≡ Input refusal) × (wants_memory (Input refusal) ≡ false)
ImageStop (stop.Failed by) reading = ⊥
ImageStop stop.NoMemory reading = Unit {0}
