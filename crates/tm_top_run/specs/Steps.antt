-- What the steps of a run leave (this project's own).
use Rattle.std.specs.Prelude.{◌≡◌, ◌≢◌, ◌⊎◌, ℕ, ◌≤◌, Bool, false, List, [], IsTrue, IsFalse, Option, None, Some}
use Rattle.std.specs.Prelude.{Result, Ok, Err}
use Rattle.tm_desk.specs.Causes.{Files}
use Rattle.tm_desk.specs.declared.desk.DeskError.TheVariants.{Failed}
use Rattle.tm_refusals.specs.declared.role.Role.{Role}
use Rattle.tm_refusals.specs.declared.role.Role.TheVariants as roles
use Rattle.tm_plan_cases.specs.declared.program.Program.{Program}
use Rattle.tm_plan_cases.specs.declared.cases.Cases.{Cases}
use Rattle.tm_plan_cases.specs.Collected.{budget_of}
use Rattle.tm_plan_cases.specs.declared.event.Event.{Event}
use Rattle.tm_plan_script.specs.declared.faults.FaultLine.{FaultLine}
use Rattle.tm_plan_script.specs.Accepted.{AreAccepted}
use Rattle.tm_fault.specs.declared.fault.FaultScriptFault.{FaultScriptFault}
use Rattle.tm_fault.specs.Script.{script_of}
use Rattle.tm_fault.specs.Spelled.{IsScript}
use Rattle.tm_guest.specs.Guested.{Guested}
use Rattle.tm_top_line.specs.declared.fault.AnyFault.TheVariants.{Script, Desk}
use Rattle.tm_top_line.specs.Lines.{wants_memory}
use Rattle.tm_top_line.specs.Scripts.{script_wants}
use Rattle.tm_top_owed.specs.declared.stop.Stop.{Stop}
use Rattle.tm_top_owed.specs.declared.stop.Stop.TheVariants as stop
use Rattle.tm_top_owed.specs.Inputs.{fault_over}
use Rattle.tm_top_owed.specs.Changes.{DeskChange, SinkChange, DeskFailed, SinkFailed, Silent, Took, TookFront}
use Rattle.tm_top_owed.specs.Owed.{IsHeldScript, HoldsTrace, is_given, role_of, status_of}
use Rattle.tm_top_owed.specs.Steps.{PutStop}
use Rattle.tm_top_owed.specs.Runs.{guest_of, IsRunUnder, IsTold, AllAgree}

-- ---- the script

-- these are the lines of a text over a program's cases
pub record IsRead (cases : Cases) (text : List ℕ) (lines : List FaultLine) : Type 0 where
  pub read : script_of cases text ≡ Ok lines
  pub script : IsScript cases text lines

-- why a text isn't read as a script
abbrev pub TextStop : Stop → Result (List FaultLine) FaultScriptFault → Type 0
TextStop (stop.Refused by fault) reading =
    (refusal : FaultScriptFault) × (reading ≡ Err refusal) × (by ≡ roles.Faults) × (fault ≡ Script refusal)
    × (script_wants refusal ≡ false)
TextStop (stop.Failed by) reading = ⊥
TextStop stop.NoMemory reading = Unit {0}

-- The lines are those of the script that is asked for, are accepted, and the script has no fault.
pub record IsScriptRead (name : Option (List ℕ)) (cases : Cases) (tells : Bool) (held : Files)
    (lines : List FaultLine) : Type 0 where
  pub script : IsHeldScript name cases tells held lines
  pub accepted : AreAccepted cases lines
  pub no_fault : IsTrue tells → fault_over name cases held ≡ None

-- why the script that is asked for isn't read: it is refused with its fault, the desk's count rose, or it isn't held
abbrev pub ScriptStop : Stop → Option (List ℕ) → Cases → DeskChange → Type 0
ScriptStop (stop.Refused by fault) name cases desk =
    (by ≡ roles.Faults) × IsTrue (is_given name) × (status_of fault ≡ 3) × IsFalse (wants_memory fault)
    × (IsTrue desk.tells → fault_over name cases desk.held ≡ Some fault)
ScriptStop (stop.Failed by) name cases desk =
    (by ≡ roles.Faults) × IsTrue (is_given name)
    × (DeskFailed desk ⊎ (IsTrue desk.tells × (fault_over name cases desk.held ≡ Some (Desk Failed))))
ScriptStop stop.NoMemory name cases desk = Unit {0}

-- ---- the simulation

-- How a simulation is told of which no case is reported where its script has no lines, and which isn't cut off where
-- its limit is at least the program's budget.
pub record IsToldRight (g : Guested) (text : List ℕ) (status : ℕ) : Type 0 where
  pub told : IsTold g text status
  pub silent : g.faults ≡ [] → status ≢ 1
  pub ends : budget_of g.program.cases ≤ g.limit → status ≢ 4

-- How a simulation of a program under these lines is told that has made these events of at most so many.
pub record IsToldOf (program : Program) (lines : List FaultLine) (limit : ℕ) (events : List Event) (text : List ℕ)
    (status : ℕ) : Type 0 where
  pub simulated : IsRunUnder program lines limit events
  pub its : IsToldRight (guest_of program lines limit events) text status

-- The status of a run with these verdicts: 0 where no case is reported, and else 1.
abbrev pub IsStatusOf : List ℕ → ℕ → Type 0
IsStatusOf verdicts status = ((status ≡ 0) × AllAgree verdicts) ⊎ ((status ≡ 1) × (AllAgree verdicts → ⊥))

-- ---- the trace and the text

-- why the trace that is asked for isn't written: a count rose
pub record TraceStop (s : Stop) (name : Option (List ℕ)) (before after : ℕ) : Type 0 where
  pub asked : role_of roles.Trace name ≡ Some roles.Trace
  pub cause : PutStop s roles.Trace before after

-- the trace is written that is asked for, and the text is printed
pub record IsFinished (name : Option (List ℕ)) (count : ℕ) (events : List Event) (text : List ℕ) (desk : DeskChange)
    (out : SinkChange) : Type 0 where
  pub traced : HoldsTrace name count events desk.tells desk.holds
  pub printed : Took out text

-- where it stopped: at the trace, with nothing printed, or behind it, at the text
pub data FinishStop (s : Stop) (name : Option (List ℕ)) (count : ℕ) (events : List Event) (text : List ℕ)
    (desk : DeskChange) (out : SinkChange) : Type 0 where
  at_trace : TraceStop s name desk.faults desk.faults_after → Silent out
      → FinishStop s name count events text desk out
  at_text : HoldsTrace name count events desk.tells desk.holds → TookFront out text
      → PutStop s roles.Output out.faults out.faults_after → FinishStop s name count events text desk out
