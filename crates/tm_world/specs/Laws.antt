-- Laws of runs (this project's own).
use Rattle.std.specs.Prelude.{ℕ, List, ◌++◌, IsFalse, AllPairs}
use Rattle.tm_plan_cases.specs.declared.program.Program.{Program}
use Rattle.tm_plan_script.specs.declared.faults.FaultLine.{FaultLine}
use Rattle.tm_plan_script.specs.Accepted.{same_kind, AreAccepted}
use Rattle.tm_world.specs.Run.{Step, Run}
use Rattle.tm_world.specs.Script.{actions_at}

-- A kind of run passes to each prefix: to what stands before some of its steps.
abbrev pub PassesToPrefixes : (Run → Type 0) → Type 0
PassesToPrefixes Kind = (opening : ℕ → List ℕ) (later past : List Step)
    → Kind (record { opening = opening; steps = later ++ past }) → Kind (record { opening = opening; steps = past })

-- Of what an accepted script does to one step, no two actions are of one kind.
abbrev pub ActionsDiffer : Program → Type 0
ActionsDiffer p = (lines : List FaultLine) → AreAccepted p.cases lines → (h q pc : ℕ)
    → AllPairs (λ a b. IsFalse (same_kind a b)) (actions_at p lines h q pc)
