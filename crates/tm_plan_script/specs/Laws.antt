-- Laws of scripts (this project's own).
use Rattle.std.specs.Prelude.{ℕ, ◌^◌, ◌<◌, List, All}
use Rattle.tm_plan_cases.specs.declared.cases.Cases.{Cases}
use Rattle.tm_plan_script.specs.declared.faults.FaultLine.{FaultLine}
use Rattle.tm_plan_script.specs.declared.faults.Action.{Action}
use Rattle.tm_plan_script.specs.declared.faults.Action.TheVariants.{Result, Loaded, Stored, Drop, Turn}
use Rattle.tm_plan_script.specs.Accepted.{AreAccepted}

-- the number of an action, 0 where it has none
abbrev pub number_of : Action → ℕ
number_of (Result x) = x
number_of (Loaded x) = x
number_of (Stored x) = x
number_of Drop = 0
number_of Turn = 0

-- All numbers of the lines have 64 bits, as the type of lines gives.
abbrev pub AreSmall : List FaultLine → Type 0
AreSmall lines = All (λ line. number_of line.action < 2 ^ 64) lines

-- The numbers of accepted lines have.
abbrev pub AcceptedAreSmall : Cases → Type 0
AcceptedAreSmall cases = (lines : List FaultLine) → AreAccepted cases lines → AreSmall lines
