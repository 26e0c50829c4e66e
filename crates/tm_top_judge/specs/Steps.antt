-- What the steps of a judgement leave (this project's own).
use Rattle.std.specs.Prelude.{◌≡◌, ◌≢◌, ◌⊎◌, ℕ, false, List, IsTrue, IsFalse, Option, None, Some, Result, Err}
use Rattle.tm_desk.specs.declared.desk.DeskError.TheVariants.{Failed, TooLong}
use Rattle.tm_refusals.specs.declared.role.Role.TheVariants as roles
use Rattle.tm_plan_cases.specs.declared.program.Program.{Program}
use Rattle.tm_plan_cases.specs.declared.event.Event.{Event}
use Rattle.tm_world.specs.Place.{harts}
use Rattle.tm_trace.specs.declared.trace.TraceFault.{TraceFault}
use Rattle.tm_trace.specs.Reading.{Traced, trace_of}
use Rattle.tm_judge.specs.declared.answers.Judgement.{Judgement}
use Rattle.tm_judge.specs.declared.answers.JudgeFault.TheVariants.{Harts}
use Rattle.tm_judge.specs.Judged.{Judged}
use Rattle.tm_top_line.specs.declared.fault.AnyFault.{AnyFault}
use Rattle.tm_top_line.specs.declared.fault.AnyFault.TheVariants.{Trace, Judge, Desk}
use Rattle.tm_top_line.specs.Traces.{trace_wants}
use Rattle.tm_top_line.specs.Lines.{wants_memory}
use Rattle.tm_top_owed.specs.declared.sizes.TheConstants.{TRACE_BYTES}
use Rattle.tm_top_owed.specs.declared.stop.Stop.{Stop}
use Rattle.tm_top_owed.specs.declared.stop.Stop.TheVariants as stop
use Rattle.tm_top_owed.specs.Inputs.{trace_over}
use Rattle.tm_top_owed.specs.Changes.{DeskChange, DeskFailed}
use Rattle.tm_top_owed.specs.Owed.{status_of}

-- ---- the trace

-- why a text isn't read as a trace
abbrev pub TextStop : Stop → Result Traced TraceFault → Type 0
TextStop (stop.Refused by fault) reading =
    (refusal : TraceFault) × (reading ≡ Err refusal) × (by ≡ roles.Trace) × (fault ≡ Trace refusal)
    × (trace_wants refusal ≡ false)
TextStop (stop.Failed by) reading = ⊥
TextStop stop.NoMemory reading = Unit {0}

-- why the trace of a name isn't read: it is refused with its fault, over whatever program, the desk's count rose, or it
-- isn't held
abbrev pub TraceStop : Stop → List ℕ → DeskChange → Type 0
TraceStop (stop.Refused by fault) name desk =
    (by ≡ roles.Trace) × (status_of fault ≡ 3) × IsFalse (wants_memory fault)
    × (IsTrue desk.tells → (program : Program) → trace_over name program desk.held ≡ Some fault)
TraceStop (stop.Failed by) name desk =
    (by ≡ roles.Trace) × (DeskFailed desk
    ⊎ (IsTrue desk.tells × ((program : Program) → trace_over name program desk.held ≡ Some (Desk Failed))))
TraceStop stop.NoMemory name desk = Unit {0}

-- ---- the judgement

-- A trace of so many harts and these events is one of the program's harts, and these are the three true answers.
pub record IsJudgedOver (program : Program) (count : ℕ) (events : List Event) (judgement : Judgement) : Type 0 where
  pub same : count ≡ harts program
  pub judged : Judged program events judgement

-- why a trace of so many harts isn't judged
abbrev pub HartsStop : Stop → Program → (count : ℕ) → Type 0
HartsStop (stop.Refused by fault) program count =
    (by ≡ roles.Trace) × (fault ≡ Judge (Harts count)) × (count ≢ harts program)
HartsStop (stop.Failed by) program count = ⊥
HartsStop stop.NoMemory program count = Unit {0}
