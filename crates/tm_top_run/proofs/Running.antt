-- The run of an image, and where it stops.
use Rattle.std.proofs.Common.{◌≡◌, ◌≤◌, ◌∙◌, ℕ, List, Option, None, Some, true, false, Bool, IsTrue, ap, refl, sym}
use Rattle.std.proofs.Common.{subst, arith}
use Rattle.tm_desk.specs.Causes.{Files, OthersStay}
use Rattle.tm_plan_cases.specs.declared.program.Program.{Program}
use Rattle.tm_plan_cases.specs.declared.event.Event.{Event}
use Rattle.tm_plan_script.specs.declared.faults.FaultLine.{FaultLine}
use Rattle.tm_refusals.specs.declared.role.Role.TheVariants as roles
use Rattle.tm_world.specs.Place.{harts}
use Rattle.tm_words.specs.declared.command.Run.{Run}
use Rattle.tm_words.specs.declared.command.Command.TheVariants as commands
use Rattle.tm_top_owed.specs.declared.stop.Stop.{Stop}
use Rattle.tm_top_owed.specs.Changes.{DeskChange, SinkChange, FilesStay}
use Rattle.tm_top_owed.specs.Owed.{IsRunOn, IsRunAs, IsRunOf, IsDone, AllButTraceStay, HoldsTrace}
use Rattle.tm_top_owed.specs.Runs.{IsRoundOrder, InOrder}
use Rattle.tm_top_owed.specs.Steps.{Stopped}
use Rattle.tm_top_owed.proofs.Stops.{write_stopped, print_stopped}
use Rattle.tm_top_run.specs.Steps.{IsToldOf, IsFinished, FinishStop}
use Rattle.tm_top_run.specs.Steps.FinishStop.{at_trace, at_text}

-- ---- how it is told

-- in the order that the run asks for
pub run_as : (r : Run) (program : Program) (lines : List FaultLine) (events : List Event) (text : List ℕ) (status : ℕ)
    (journal : Option (List Event)) → IsToldOf program lines r.events events text status
    → InOrder r.threads program lines r.events events → journal ≡ Some events
    → IsRunAs r program lines events (record { text = text; status = status; journal = journal })
run_as r program lines events text status journal told order is = record {
  its_journal = is;
  simulated = told.simulated;
  in_order = order;
  told = told.its.told;
  silent = told.its.silent;
  ends = told.its.ends;
}

-- in round order
pub in_round : (t : Bool) (program : Program) (lines : List FaultLine) (limit : ℕ) (events : List Event) → t ≡ false
    → IsRoundOrder program lines limit events → InOrder t program lines limit events
in_round t program lines limit events is order =
    subst (λ (b : Bool). InOrder b program lines limit events) (sym is) order

-- by threads
pub by_threads : (t : Bool) (program : Program) (lines : List FaultLine) (limit : ℕ) (events : List Event) → t ≡ true
    → InOrder t program lines limit events
by_threads t program lines limit events is = subst (λ (b : Bool). InOrder b program lines limit events) (sym is) tt

-- ---- the desk, of two changes one behind the other

-- the change of the second half of another one
abbrev pub behind : DeskChange → (middle : Files) → (faults : ℕ) → DeskChange
behind desk middle faults = record {
  tells = desk.tells;
  held = middle;
  holds = desk.holds;
  faults = faults;
  faults_after = desk.faults_after;
}

-- where the first half changes no file, all but the trace stay
pub stay_behind : (name : Option (List ℕ)) (desk : DeskChange) (middle : Files) (faults : ℕ)
    → (IsTrue desk.tells → middle ≡ desk.held) → AllButTraceStay name (behind desk middle faults)
    → AllButTraceStay name desk
stay_behind None desk middle faults same stay = λ told. stay told ∙ same told
stay_behind (Some name) desk middle faults same stay =
    λ told. subst (λ (files : Files). OthersStay files desk.holds name) (same told) (stay told)

-- where all files stay, all but the trace do
pub all_stay : (name : Option (List ℕ)) (desk : DeskChange) → FilesStay desk → AllButTraceStay name desk
all_stay None desk stay = stay
all_stay (Some name) desk stay =
    λ told other differs. ap (λ (files : Files). files other) (stay told)

-- ---- its end

-- it is done
pub run_done : (r : Run) (program : Program) (lines : List FaultLine) (events : List Event) (text : List ℕ)
    (status : ℕ) (journal : Option (List Event)) (desk : DeskChange) (middle : Files) (faults : ℕ) (out : SinkChange)
    → IsRunOn r desk.tells desk.held program lines
    → IsRunAs r program lines events (record { text = text; status = status; journal = journal })
    → IsFinished r.trace (harts program) events text (behind desk middle faults) out
    → IsDone (commands.Run r) desk out status journal
run_done r program lines events text status journal desk middle faults out its run finished = record {
  text = text;
  ready = record {
    program = program;
    lines = lines;
    events = events;
    its = its;
    run = run;
    traced = finished.traced;
  };
  printed = finished.printed;
}

-- it stops at its trace, or at its text
pub run_stopped : (s : Stop) (r : Run) (program : Program) (lines : List FaultLine) (events : List Event)
    (text : List ℕ) (status : ℕ) (desk : DeskChange) (middle : Files) (faults : ℕ) (out : SinkChange)
    → IsRunOn r desk.tells desk.held program lines
    → IsRunAs r program lines events (record { text = text; status = status; journal = Some events })
    → desk.faults ≤ faults → FinishStop s r.trace (harts program) events text (behind desk middle faults) out
    → Stopped s (commands.Run r) desk out
run_stopped s r program lines events text status desk middle faults out its run later (at_trace stopped silent) =
    write_stopped s (commands.Run r) roles.Trace desk out faults stopped.asked later stopped.cause its.accepted silent
run_stopped s r program lines events text status desk middle faults out its run later (at_text traced printed cause) =
    print_stopped s (commands.Run r) desk out (record { text = text; status = status; journal = Some events })
    (record { program = program; lines = lines; events = events; its = its; run = run; traced = traced }) printed cause
