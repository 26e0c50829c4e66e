-- The streams of cases (this project's own).
use Rattle.std.specs.Prelude.{ℕ, Option, Some, None, slice_get}
use Rattle.tm_plan_cases.specs.declared.cases.Cases.{Cases}
use Rattle.tm_plan_cases.specs.declared.cases.Case.{Case}
use Rattle.tm_plan_cases.specs.declared.cases.Stream.{Stream}

-- hart h's stream of case c
abbrev pub stream_in : Cases → ℕ → ℕ → Option Stream
stream_in cases c h = of_case (slice_get cases.cases c)
  where
    of_case : Option Case → Option Stream
    of_case None = None
    of_case (Some case) = slice_get case.streams h
