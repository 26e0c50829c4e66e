-- What is owed of a simulation and of its end (this project's own).
use Rattle.std.specs.Prelude.{◌≡◌, ◌⊎◌, ℕ, ◌≤◌, ◌==◌, Bool, true, false, List, [], length, All, Option, None, Some}
use Rattle.std.specs.List.{count_by}
use Rattle.tm_base.specs.Lists.{count_from}
use Rattle.tm_plan_cases.specs.declared.program.Program.{Program}
use Rattle.tm_plan_cases.specs.Collected.{budget_of}
use Rattle.tm_plan_cases.specs.declared.event.Event.{Event}
use Rattle.tm_plan_script.specs.declared.faults.FaultLine.{FaultLine}
use Rattle.tm_plan_journal.specs.Journaled.{Journaled}
use Rattle.tm_world.specs.Place.{harts, halt_of}
use Rattle.tm_world.specs.Kinds.{Plain, Legal, Half}
use Rattle.tm_world.specs.Script.{FaultedRun}
use Rattle.tm_world.specs.Replay.{run_of}
use Rattle.tm_guest.specs.Guested.{Guested, state, fresh}
use Rattle.tm_guest.specs.Rounds.{Goes, AllHalted}
use Rattle.tm_report_run.specs.Verdicts.{verdicts_of}
use Rattle.tm_report_run.specs.Report.{report, full_line}

-- the events of a journal, if there is one
abbrev pub events_in : Option Journaled → Option (List Event)
events_in None = None
events_in (Some journal) = Some journal.events

-- the simulated machine that has made these events of at most so many, under a script of these lines
abbrev pub guest_of : Program → List FaultLine → (limit : ℕ) → List Event → Guested
guest_of p lines limit events = record { program = p; faults = lines; limit = limit; journal = events }

-- The events are the journal of a simulation of the program under a script of these lines: at most so many, and a run
-- that the lines have changed, which is a half run. Where there are no lines it is plain, and so legal.
pub record IsRunUnder (p : Program) (lines : List FaultLine) (limit : ℕ) (events : List Event) : Type 0 where
  pub few : length events ≤ limit
  pub faulted : FaultedRun p lines (run_of p lines events)
  pub half : Half p (run_of p lines events)
  pub plain : lines ≡ [] → Plain p (run_of p lines events)
  pub legal : lines ≡ [] → Legal p (run_of p lines events)

-- They are those of turns in round order.
abbrev pub IsRoundOrder : Program → List FaultLine → (limit : ℕ) → List Event → Type 0
IsRoundOrder p lines limit events = (h : ℕ) × Goes (fresh p lines limit) h (guest_of p lines limit events)

-- in round order, where harts aren't driven by threads
abbrev pub InOrder : (threads : Bool) → Program → List FaultLine → (limit : ℕ) → List Event → Type 0
InOrder true p lines limit events = Unit {0}
InOrder false p lines limit events = IsRoundOrder p lines limit events

-- A simulation of a program has ended, whatever its script: all harts are at halt, or the journal is full; and all are
-- at halt where the limit is at least the program's budget.
pub record IsOver (p : Program) (g : Guested) : Type 0 where
  pub its_program : g.program ≡ p
  pub ended : AllHalted g ⊎ (length g.journal ≡ g.limit)
  pub ends : budget_of p.cases ≤ g.limit → AllHalted g

-- how many harts are at their halt marks
unfoldable pub halted_of : Guested → ℕ
halted_of g = count_by (λ h. (state g h).pc == halt_of g.program h) (count_from 0 (harts g.program))

-- the journal is full, and some hart isn't at halt
abbrev pub IsFull : Guested → Type 0
IsFull g = (length g.journal ≡ g.limit) × (AllHalted g → ⊥)

-- the verdicts that a simulated machine's journal holds
abbrev pub verdicts_in : Guested → List ℕ
verdicts_in g = verdicts_of g.program.cases g.journal

-- no case is reported
abbrev pub AllAgree : List ℕ → Type 0
AllAgree verdicts = All (λ v. v ≡ 0) verdicts

-- How a run of a simulated machine is told, by the status that it ends with: 0 and 1 where all harts are at halt, with
-- the report, 0 where every verdict is 0, and 1 where some is not; 4 where the journal is full and some hart is not at
-- halt, with the line that says so.
pub data IsTold (g : Guested) (text : List ℕ) : ℕ → Type 0 where
  agreed : AllHalted g → AllAgree (verdicts_in g) → text ≡ report g.program.cases (verdicts_in g) (length g.journal)
      → IsTold g text 0
  reported : AllHalted g → (AllAgree (verdicts_in g) → ⊥)
      → text ≡ report g.program.cases (verdicts_in g) (length g.journal) → IsTold g text 1
  full : IsFull g → text ≡ full_line (length g.journal) (halted_of g) (harts g.program) → IsTold g text 4
