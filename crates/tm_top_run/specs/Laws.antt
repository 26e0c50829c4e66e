-- A law of simulations (this project's own).
use Rattle.std.specs.Prelude.{List}
use Rattle.tm_plan_cases.specs.declared.program.Program.{Program}
use Rattle.tm_plan_cases.specs.declared.event.Event.{Event}
use Rattle.tm_plan_script.specs.declared.faults.FaultLine.{FaultLine}
use Rattle.tm_world.specs.Kinds.{Legal}
use Rattle.tm_world.specs.Sound.{Sound}
use Rattle.tm_world.specs.Replay.{run_of}
use Rattle.tm_report_run.specs.Verdicts.{verdicts_of}
use Rattle.tm_top_owed.specs.Runs.{AllAgree}

-- Where events are those of a legal run of a sound program, every verdict that they hold is 0.
abbrev pub NoReport : Program → Type 0
NoReport p = Sound p → (lines : List FaultLine) (events : List Event) → Legal p (run_of p lines events)
    → AllAgree (verdicts_of p.cases events)
