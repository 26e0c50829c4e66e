-- The trace that is judged, its fault, and the judgement.
use Rattle.std.proofs.Common.{◌≡◌, ◌≢◌, ◌≤◌, ◌<◌, ◌==◌, ◌∙◌, ap, sym, refl, ℕ, List, Bool, true, false, Option, None}
use Rattle.std.proofs.Common.{Some, Ok, IsTrue, length, inl, inr, arith, cond, eq-eqb, ne_eqb}
use Rattle.std.specs.Prelude.{IsSomeAnd}
use Rattle.tm_desk.specs.Causes.{Files}
use Rattle.tm_desk.specs.declared.desk.DeskError.TheVariants.{TooLong, Failed}
use Rattle.tm_plan_cases.specs.declared.program.Program.{Program}
use Rattle.tm_plan_cases.specs.declared.event.Event.{Event}
use Rattle.tm_refusals.specs.declared.role.Role.TheVariants as roles
use Rattle.tm_world.specs.Place.{harts}
use Rattle.tm_trace.specs.Reading.{trace_of}
use Rattle.tm_judge.specs.declared.answers.Judgement.{Judgement}
use Rattle.tm_judge.specs.declared.answers.JudgeFault.TheVariants.{Harts}
use Rattle.tm_top_line.specs.declared.fault.AnyFault.{AnyFault}
use Rattle.tm_top_line.specs.declared.fault.AnyFault.TheVariants.{Trace, Judge, Desk}
use Rattle.tm_words.specs.declared.command.Judge.{Judge as JudgeOf}
use Rattle.tm_words.specs.declared.command.Command.TheVariants as commands
use Rattle.tm_top_owed.specs.declared.sizes.TheConstants.{TRACE_BYTES}
use Rattle.tm_top_owed.specs.declared.stop.Stop.{Stop}
use Rattle.tm_top_owed.specs.declared.stop.Stop.TheVariants as stop
use Rattle.tm_top_owed.specs.Inputs.{not_judged, refused_trace, trace_over, trace_behind, fault_of_trace}
use Rattle.tm_top_owed.specs.Inputs.{fault_of_image}
use Rattle.tm_top_owed.specs.Inputs.{first_fault, program_in, text_of}
use Rattle.tm_top_owed.specs.Changes.{DeskChange, DeskFailed}
use Rattle.tm_top_owed.specs.Owed.{IsOpened, IsHeldTrace, IsJudgementOf, IsJudgedOf, status_judged}
use Rattle.tm_top_line.specs.Judgements.{judgement_text}
use Rattle.tm_top_owed.specs.Owed.InputFailure.{unread, missing}
use Rattle.tm_top_owed.specs.Steps.{ReadStop, IsHeldImage, InputStop}
use Rattle.tm_top_owed.proofs.Limits.{long, short}
use Rattle.tm_top_owed.proofs.Images.{judge_accepted, its_program}
use Rattle.tm_top_judge.specs.Steps.{TextStop, TraceStop, IsJudgedOver, HartsStop}

-- ---- its fault, over a program

trace_missing : (name : List ℕ) (p : Program) (files : Files) → files name ≡ None
    → trace_over name p files ≡ Some (Desk Failed)
trace_missing name p files is = rw is refl

trace_long : (name : List ℕ) (p : Program) (files : Files)
    → IsSomeAnd (files name) (λ text. TRACE_BYTES < length text)
    → trace_over name p files ≡ Some (Desk (TooLong TRACE_BYTES))
trace_long name p files h = long TRACE_BYTES (refused_trace p) (files name) h

trace_text : (name : List ℕ) (p : Program) (files : Files) (text : List ℕ) → files name ≡ Some text
    → length text ≤ TRACE_BYTES → trace_over name p files ≡ refused_trace p text
trace_text name p files text held h = rw held (short TRACE_BYTES (refused_trace p) text h)

-- ---- its steps

-- a read of it that stopped
pub trace_unread : (s : Stop) (name : List ℕ) (desk : DeskChange)
    → ReadStop s roles.Trace (IsTrue desk.tells) (desk.held name) TRACE_BYTES desk.faults desk.faults_after
    → TraceStop s name desk
trace_unread (stop.Refused by fault) name desk (role_is, fault_is, h) =
    rw (role_is, fault_is) (refl, refl, refl, λ told p. trace_long name p desk.held (h told))
trace_unread (stop.Failed by) name desk (role_is, inl rose) = (role_is, inl rose)
trace_unread (stop.Failed by) name desk (role_is, inr (told, none)) =
    (role_is, inr (told, λ p. trace_missing name p desk.held none))
trace_unread stop.NoMemory name desk h = tt

-- a text that is no trace
pub trace_refused : (s : Stop) (name : List ℕ) (desk : DeskChange) (text : List ℕ)
    → (IsTrue desk.tells → desk.held name ≡ Some text) → length text ≤ TRACE_BYTES
    → TextStop s (trace_of text) → TraceStop s name desk
trace_refused (stop.Refused by fault) name desk text there h (refusal, refused, role_is, fault_is, has_line) =
    rw (role_is, fault_is) (
      refl,
      refl,
      has_line,
      λ told p. trace_text name p desk.held text (there told) h ∙ ap (not_judged (harts p)) refused,
    )
trace_refused (stop.Failed by) name desk text there h stopped = absurd stopped
trace_refused stop.NoMemory name desk text there h stopped = tt

-- a text that is one
pub trace_read : (name : List ℕ) (desk : DeskChange) (text : List ℕ) (count : ℕ) (events : List Event)
    → (IsTrue desk.tells → desk.held name ≡ Some text) → length text ≤ TRACE_BYTES
    → trace_of text ≡ Ok (count, events) → IsHeldTrace name desk.tells desk.held count events
trace_read name desk text count events there h is = record { text = text; its = is; short = h; read = there }

-- ---- behind the image

its_trace : (j : JudgeOf) (files : Files) (file : List ℕ) (program : Program) (seed : ℕ)
    → files j.image ≡ Some file → IsOpened file program seed
    → fault_of_trace j files ≡ trace_over j.trace program files
unfolding fault_of_trace
its_trace j files file program seed held image =
    ap (λ (o : Option (List ℕ)). trace_behind j.trace (program_in (text_of o)) files) held
    ∙ ap (λ (o : Option Program). trace_behind j.trace o files) (its_program file program seed image)

at_trace : (j : JudgeOf) (files : Files) (fault : AnyFault) → fault_of_image j.image files ≡ None
    → fault_of_trace j files ≡ Some fault → first_fault (commands.Judge j) files ≡ Some (roles.Trace, fault)
unfolding first_fault
at_trace j files fault none is = rw (none, is) refl

-- the files behind the image are those at the start
module _ (j : JudgeOf) (program : Program) (seed : ℕ) (tells : Bool) (held : Files)
    (its : IsHeldImage j.image tells held program seed) (middle : Files) (same : IsTrue tells → middle ≡ held) where
  over_is : (fault : AnyFault) → IsTrue tells → trace_over j.trace program middle ≡ Some fault
      → first_fault (commands.Judge j) held ≡ Some (roles.Trace, fault)
  over_is fault told is =
      at_trace j held fault (its.accepted told) (its_trace j held its.file program seed (its.read told) its.image
      ∙ (ap (trace_over j.trace program) (sym (same told)) ∙ is))

-- a trace stops its judgement
pub trace_stop : (s : Stop) (j : JudgeOf) (program : Program) (seed : ℕ) (desk : DeskChange) (faults : ℕ)
    (middle : Files) → IsHeldImage j.image desk.tells desk.held program seed
    → (IsTrue desk.tells → middle ≡ desk.held) → desk.faults ≤ faults
    → TraceStop s j.trace (record {
      tells = desk.tells;
      held = middle;
      holds = desk.holds;
      faults = faults;
      faults_after = desk.faults_after;
    }) → InputStop s (commands.Judge j) desk
trace_stop (stop.Refused by fault) j program seed desk faults middle its same later (role_is, status, line, is) =
    rw role_is (record {
      read = refl;
      status = status;
      has_line = line;
      first = λ told. over_is j program seed desk.tells desk.held its middle same fault told (is told program);
    })
trace_stop (stop.Failed by) j program seed desk faults middle its same later (role_is, inl rose) =
    let risen : DeskFailed desk = omega arith in
    rw role_is (unread refl risen (λ told. its.accepted told))
trace_stop (stop.Failed by) j program seed desk faults middle its same later (role_is, inr (told, is)) =
    rw role_is (missing told (over_is j program seed desk.tells desk.held its middle same (Desk Failed) told
    (is program)))
trace_stop stop.NoMemory j program seed desk faults middle its same later h = tt

-- ---- the harts

others : (b : Bool) (count : ℕ) → b ≡ false
    → cond b None (Some (Judge (Harts count))) ≡ Some (Judge (Harts count))
others b count is = rw is refl

-- a trace of another number of harts stops its judgement
pub harts_stop : (s : Stop) (j : JudgeOf) (program : Program) (seed : ℕ) (desk : DeskChange) (middle : Files)
    (count : ℕ) (events : List Event) → IsHeldImage j.image desk.tells desk.held program seed
    → (IsTrue desk.tells → middle ≡ desk.held) → IsHeldTrace j.trace desk.tells middle count events
    → HartsStop s program count → InputStop s (commands.Judge j) desk
harts_stop (stop.Refused by fault) j program seed desk middle count events its same trace (role_is, fault_is, other) =
    rw (role_is, fault_is) (record {
      read = refl;
      status = refl;
      has_line = refl;
      first = λ told. over_is j program seed desk.tells desk.held its middle same (Judge (Harts count)) told
          (trace_text j.trace program middle trace.text (trace.read told) trace.short
          ∙ ap (not_judged (harts program)) trace.its ∙ others (count == harts program) count
          (ne_eqb count (harts program) other));
    })
harts_stop (stop.Failed by) j program seed desk middle count events its same trace h = absurd h
harts_stop stop.NoMemory j program seed desk middle count events its same trace h = tt

-- ---- both are read, and the trace is judged

-- a trace that is held behind the image is held at the start
held_trace : (name : List ℕ) (tells : Bool) (held middle : Files) (count other : ℕ) (events : List Event)
    → (IsTrue tells → middle ≡ held) → count ≡ other → IsHeldTrace name tells middle count events
    → IsHeldTrace name tells held other events
held_trace name tells held middle count other events same is its = record {
  text = its.text;
  its = its.its ∙ ap (λ n. Ok (n, events)) is;
  short = its.short;
  read = λ told. ap (λ (files : Files). files name) (sym (same told)) ∙ its.read told;
}

one_number : (count other : ℕ) → count ≡ other → (count == other) ≡ true
one_number count other is = eq-eqb count other is

no_fault : (b : Bool) (count : ℕ) → b ≡ true → cond b None (Some (Judge (Harts count))) ≡ None
no_fault b count is = rw is refl

pub judgement_of : (j : JudgeOf) (program : Program) (seed : ℕ) (tells : Bool) (held middle : Files) (count : ℕ)
    (events : List Event) (judgement : Judgement) → IsHeldImage j.image tells held program seed
    → (IsTrue tells → middle ≡ held) → IsHeldTrace j.trace tells middle count events
    → IsJudgedOver program count events judgement → IsJudgementOf j tells held judgement
judgement_of j program seed tells held middle count events judgement its same trace over =
    let here = held_trace j.trace tells held middle count (harts program) events same over.same trace in
    record {
      file = its.file;
      program = program;
      seed = seed;
      image = its.image;
      read = its.read;
      events = events;
      trace = here;
      judged = over.judged;
      accepted = λ told. judge_accepted j held (its.accepted told)
          (its_trace j held its.file program seed (its.read told) its.image
          ∙ trace_text j.trace program held here.text (here.read told) here.short
          ∙ ap (not_judged (harts program)) here.its
          ∙ no_fault (harts program == harts program) (harts program)
          (one_number (harts program) (harts program) refl));
    }

-- a judgement that is told
pub judged_of : (j : JudgeOf) (desk : DeskChange) (judgement : Judgement) (text : List ℕ) (status : ℕ)
    → IsJudgementOf j desk.tells desk.held judgement → text ≡ judgement_text judgement
    → status ≡ status_judged judgement → IsJudgedOf j desk (record { text = text; status = status; journal = None })
judged_of j desk judgement text status its its_text its_status = record {
  judgement = judgement;
  its = its;
  its_text = its_text;
  its_status = its_status;
  no_journal = refl;
}
