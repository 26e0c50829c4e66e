-- The script that a run asks for, and its fault.
use Rattle.std.proofs.Common.{◌≡◌, ◌≤◌, ◌<◌, ◌∙◌, ap, sym, refl, ℕ, List, [], Option, None, Some, Bool, IsTrue}
use Rattle.std.proofs.Common.{length, inl}
use Rattle.std.proofs.Common.{inr, arith}
use Rattle.std.specs.Prelude.{IsSomeAnd}
use Rattle.tm_desk.specs.Causes.{Files}
use Rattle.tm_desk.specs.declared.desk.DeskError.TheVariants.{TooLong, Failed}
use Rattle.tm_plan_cases.specs.declared.cases.Cases.{Cases}
use Rattle.tm_plan_cases.specs.declared.program.Program.{Program}
use Rattle.tm_plan_script.specs.declared.faults.FaultLine.{FaultLine}
use Rattle.tm_refusals.specs.declared.role.Role.TheVariants as roles
use Rattle.tm_guest.proofs.Budgeted.{sound-budget}
use Rattle.tm_fault.specs.Script.{script_of}
use Rattle.tm_top_line.specs.declared.fault.AnyFault.{AnyFault}
use Rattle.tm_top_line.specs.declared.fault.AnyFault.TheVariants.{Script, Desk}
use Rattle.tm_words.specs.declared.command.Run.{Run}
use Rattle.tm_words.specs.declared.command.Command.TheVariants as commands
use Rattle.tm_top_owed.specs.declared.sizes.TheConstants.{FAULTS_BYTES}
use Rattle.tm_top_owed.specs.declared.stop.Stop.{Stop}
use Rattle.tm_top_owed.specs.declared.stop.Stop.TheVariants as stop
use Rattle.tm_top_owed.specs.Inputs.{not_read, refused_script, fault_over, fault_of_script, fault_of_image, first_fault}
use Rattle.tm_top_owed.specs.Inputs.{program_in, text_of, fault_behind}
use Rattle.tm_top_owed.specs.Changes.{DeskChange, DeskFailed}
use Rattle.tm_top_owed.specs.Owed.{IsOpened, IsHeldScript, IsRunOn}
use Rattle.tm_top_owed.specs.Owed.InputFailure.{unread, missing}
use Rattle.tm_top_owed.specs.Steps.{ReadStop, IsHeldImage, InputStop}
use Rattle.tm_top_owed.proofs.Limits.{long, short}
use Rattle.tm_top_owed.proofs.Images.{its_program, run_accepted}
use Rattle.tm_top_run.specs.Steps.{IsRead, IsScriptRead, TextStop, ScriptStop}

-- ---- its fault, over a program's cases

script_missing : (name : List ℕ) (cases : Cases) (files : Files) → files name ≡ None
    → fault_over (Some name) cases files ≡ Some (Desk Failed)
script_missing name cases files is = rw is refl

script_long : (name : List ℕ) (cases : Cases) (files : Files)
    → IsSomeAnd (files name) (λ text. FAULTS_BYTES < length text)
    → fault_over (Some name) cases files ≡ Some (Desk (TooLong FAULTS_BYTES))
script_long name cases files h = long FAULTS_BYTES (refused_script cases) (files name) h

script_text : (name : List ℕ) (cases : Cases) (files : Files) (text : List ℕ) → files name ≡ Some text
    → length text ≤ FAULTS_BYTES → fault_over (Some name) cases files ≡ refused_script cases text
script_text name cases files text held h = rw held (short FAULTS_BYTES (refused_script cases) text h)

-- ---- its steps

-- a read of it that stopped
pub script_unread : (s : Stop) (name : List ℕ) (cases : Cases) (desk : DeskChange)
    → ReadStop s roles.Faults (IsTrue desk.tells) (desk.held name) FAULTS_BYTES desk.faults desk.faults_after
    → ScriptStop s (Some name) cases desk
script_unread (stop.Refused by fault) name cases desk (role_is, fault_is, h) =
    rw (role_is, fault_is) (refl, refl, refl, refl, λ told. script_long name cases desk.held (h told))
script_unread (stop.Failed by) name cases desk (role_is, inl rose) = (role_is, refl, inl rose)
script_unread (stop.Failed by) name cases desk (role_is, inr (told, none)) =
    (role_is, refl, inr (told, script_missing name cases desk.held none))
script_unread stop.NoMemory name cases desk h = tt

-- a text that is no script
pub script_refused : (s : Stop) (name : List ℕ) (cases : Cases) (desk : DeskChange) (text : List ℕ)
    → (IsTrue desk.tells → desk.held name ≡ Some text) → length text ≤ FAULTS_BYTES
    → TextStop s (script_of cases text) → ScriptStop s (Some name) cases desk
script_refused (stop.Refused by fault) name cases desk text there h (refusal, refused, role_is, fault_is, has_line) =
    rw (role_is, fault_is) (
      refl,
      refl,
      refl,
      has_line,
      λ told. script_text name cases desk.held text (there told) h ∙ ap not_read refused,
    )
script_refused (stop.Failed by) name cases desk text there h stopped = absurd stopped
script_refused stop.NoMemory name cases desk text there h stopped = tt

-- a text that is one
pub script_read : (name : List ℕ) (cases : Cases) (desk : DeskChange) (text : List ℕ) (lines : List FaultLine)
    → (IsTrue desk.tells → desk.held name ≡ Some text) → length text ≤ FAULTS_BYTES → IsRead cases text lines
    → IsScriptRead (Some name) cases desk.tells desk.held lines
script_read name cases desk text lines there h its = record {
  script = record { text = text; script = its.script; short = h; read = there };
  accepted = its.script.accepted;
  no_fault = λ told. script_text name cases desk.held text (there told) h ∙ ap not_read its.read;
}

-- no script is asked for
pub no_script : (p : Program) (cases : Cases) (tells : Bool) (held : Files) (lines : List FaultLine) → lines ≡ []
    → IsScriptRead None cases tells held lines
no_script p cases tells held lines none = rw none (record {
  script = refl;
  accepted = (sound-budget (record {
    cases = cases;
    masks = p.masks;
    text = p.text;
    tables = p.tables;
    marks = p.marks;
  })).none;
  no_fault = λ told. refl;
})

-- ---- behind the image

its_script : (r : Run) (files : Files) (file : List ℕ) (program : Program) (seed : ℕ)
    → files r.image ≡ Some file → IsOpened file program seed
    → fault_of_script r files ≡ fault_over r.faults program.cases files
unfolding fault_of_script
its_script r files file program seed held image =
    ap (λ (o : Option (List ℕ)). fault_behind r.faults (program_in (text_of o)) files) held
    ∙ ap (λ (o : Option Program). fault_behind r.faults o files) (its_program file program seed image)

at_script : (r : Run) (files : Files) (fault : AnyFault) → fault_of_image r.image files ≡ None
    → fault_of_script r files ≡ Some fault → first_fault (commands.Run r) files ≡ Some (roles.Faults, fault)
unfolding first_fault
at_script r files fault none is = rw (none, is) refl

-- a script stops its run
pub script_stop : (s : Stop) (r : Run) (program : Program) (seed : ℕ) (desk : DeskChange) (faults : ℕ)
    (middle : Files) → IsHeldImage r.image desk.tells desk.held program seed
    → (IsTrue desk.tells → middle ≡ desk.held) → desk.faults ≤ faults
    → ScriptStop s r.faults program.cases (record {
      tells = desk.tells;
      held = middle;
      holds = desk.holds;
      faults = faults;
      faults_after = desk.faults_after;
    }) → InputStop s (commands.Run r) desk
script_stop (stop.Refused by fault) r program seed desk faults middle its same later (role_is, given, status, line, is)
    =
    rw role_is (record {
      read = given;
      status = status;
      has_line = line;
      first = λ told. at_script r desk.held fault (its.accepted told)
          (its_script r desk.held its.file program seed (its.read told) its.image
          ∙ (ap (fault_over r.faults program.cases) (sym (same told)) ∙ is told));
    })
script_stop (stop.Failed by) r program seed desk faults middle its same later (role_is, given, inl rose) =
    let risen : DeskFailed desk = omega arith in
    rw role_is (unread given risen (λ told. its.accepted told))
script_stop (stop.Failed by) r program seed desk faults middle its same later (role_is, given, inr (told, is)) =
    rw role_is (missing told (at_script r desk.held (Desk Failed) (its.accepted told)
    (its_script r desk.held its.file program seed (its.read told) its.image
    ∙ (ap (fault_over r.faults program.cases) (sym (same told)) ∙ is))))
script_stop stop.NoMemory r program seed desk faults middle its same later h = tt

-- a script that is held behind the image is held at the start
held_script : (name : Option (List ℕ)) (cases : Cases) (tells : Bool) (held middle : Files) (lines : List FaultLine)
    → (IsTrue tells → middle ≡ held) → IsHeldScript name cases tells middle lines
    → IsHeldScript name cases tells held lines
held_script None cases tells held middle lines same none = none
held_script (Some name) cases tells held middle lines same its = record {
  text = its.text;
  script = its.script;
  short = its.short;
  read = λ told. ap (λ (files : Files). files name) (sym (same told)) ∙ its.read told;
}

-- both are read
pub run_on : (r : Run) (program : Program) (seed : ℕ) (lines : List FaultLine) (tells : Bool) (held middle : Files)
    → IsHeldImage r.image tells held program seed → (IsTrue tells → middle ≡ held)
    → IsScriptRead r.faults program.cases tells middle lines → IsRunOn r tells held program lines
run_on r program seed lines tells held middle its same script = record {
  file = its.file;
  seed = seed;
  image = its.image;
  read = its.read;
  script = held_script r.faults program.cases tells held middle lines same script.script;
  accepted = λ told. run_accepted r held (its.accepted told)
      (its_script r held its.file program seed (its.read told) its.image
      ∙ (ap (fault_over r.faults program.cases) (sym (same told)) ∙ script.no_fault told));
}
