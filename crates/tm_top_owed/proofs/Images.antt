-- The image that is held under a name, and its fault.
use Rattle.std.proofs.Common.{◌≡◌, ◌≤◌, ◌<◌, ◌∙◌, ap, refl, ℕ, List, None, Some, IsTrue, length, inl, inr}
use Rattle.std.specs.Prelude.{IsSomeAnd}
use Rattle.tm_base.specs.declared.limits.TheConstants.{IMAGE_BYTES}
use Rattle.tm_desk.specs.Causes.{Files}
use Rattle.tm_desk.specs.declared.desk.DeskError.TheVariants.{TooLong, Failed}
use Rattle.tm_plan_cases.specs.declared.program.Program.{Program}
use Rattle.tm_refusals.specs.declared.role.Role.TheVariants as roles
use Rattle.tm_image_build.specs.Opened.{opened}
use Rattle.tm_top_line.specs.declared.fault.AnyFault.{AnyFault}
use Rattle.tm_top_line.specs.declared.fault.AnyFault.TheVariants.{Desk}
use Rattle.tm_words.specs.declared.command.Run.{Run}
use Rattle.tm_words.specs.declared.command.Judge.{Judge as JudgeOf}
use Rattle.tm_words.specs.declared.command.Command.{Command}
use Rattle.tm_words.specs.declared.command.Command.TheVariants as commands
use Rattle.tm_top_owed.specs.declared.stop.Stop.{Stop}
use Rattle.tm_top_owed.specs.declared.stop.Stop.TheVariants as stop
use Rattle.tm_top_owed.specs.Inputs.{not_opened, refused_image, fault_of_image, fault_of_script, fault_before}
use Rattle.tm_top_owed.specs.Inputs.{fault_of_trace, first_fault, program_in, planned, made_of}
use Rattle.tm_top_owed.specs.Changes.{DeskChange}
use Rattle.tm_top_owed.specs.Owed.{IsOpened, reads}
use Rattle.tm_top_owed.specs.Owed.InputFailure.{unread, missing}
use Rattle.tm_top_owed.specs.Steps.{ReadStop, FileStop, OpenStop, IsHeldImage, InputStop}
use Rattle.tm_top_owed.proofs.Limits.{long, short}

-- ---- its fault

image_missing : (name : List ℕ) (files : Files) → files name ≡ None → fault_of_image name files ≡ Some (Desk Failed)
unfolding fault_of_image
image_missing name files is = rw is refl

image_long : (name : List ℕ) (files : Files) → IsSomeAnd (files name) (λ file. IMAGE_BYTES < length file)
    → fault_of_image name files ≡ Some (Desk (TooLong IMAGE_BYTES))
unfolding fault_of_image
image_long name files h = long IMAGE_BYTES refused_image (files name) h

image_read : (name : List ℕ) (files : Files) (file : List ℕ) → files name ≡ Some file → length file ≤ IMAGE_BYTES
    → fault_of_image name files ≡ refused_image file
unfolding fault_of_image
image_read name files file held h = rw held (short IMAGE_BYTES refused_image file h)

-- ---- its steps

-- a read of it that stopped
pub read_stop : (s : Stop) (name : List ℕ) (desk : DeskChange)
    → ReadStop s roles.Image (IsTrue desk.tells) (desk.held name) IMAGE_BYTES desk.faults desk.faults_after
    → OpenStop s name desk
read_stop (stop.Refused by fault) name desk (role_is, fault_is, h) =
    rw (role_is, fault_is) (refl, refl, refl, λ told. image_long name desk.held (h told))
read_stop (stop.Failed by) name desk (role_is, inl rose) = (role_is, inl rose)
read_stop (stop.Failed by) name desk (role_is, inr (told, none)) =
    (role_is, inr (told, image_missing name desk.held none))
read_stop stop.NoMemory name desk h = tt

-- where it isn't opened
pub file_stop : (s : Stop) (name : List ℕ) (desk : DeskChange) (file : List ℕ)
    → (IsTrue desk.tells → desk.held name ≡ Some file) → length file ≤ IMAGE_BYTES → FileStop s (opened file)
    → OpenStop s name desk
file_stop (stop.Refused by fault) name desk file there h (refusal, refused, role_is, fault_is, has_line) =
    rw (role_is, fault_is) (
      refl,
      refl,
      has_line,
      λ told. image_read name desk.held file (there told) h ∙ ap not_opened refused,
    )
file_stop (stop.Failed by) name desk file there h stopped = absurd stopped
file_stop stop.NoMemory name desk file there h stopped = tt

-- where it is opened
pub held_image : (name : List ℕ) (desk : DeskChange) (file : List ℕ) (program : Program) (seed : ℕ)
    → (IsTrue desk.tells → desk.held name ≡ Some file) → length file ≤ IMAGE_BYTES → IsOpened file program seed
    → IsHeldImage name desk.tells desk.held program seed
held_image name desk file program seed there h image = record {
  file = file;
  image = image;
  read = there;
  accepted = λ told.
      let none : refused_image file ≡ None = ap not_opened image.accepted in
      image_read name desk.held file (there told) h ∙ none;
}

-- the program of its file
pub its_program : (file : List ℕ) (program : Program) (seed : ℕ) → IsOpened file program seed
    → program_in file ≡ Some program
unfolding program_in
its_program file program seed image = ap planned image.form ∙ ap made_of image.its_program

-- ---- the commands that read it first

-- its fault is theirs
command_stop : (s : Stop) (c : Command) (name : List ℕ) (desk : DeskChange) → IsTrue (reads c roles.Image)
    → fault_before c roles.Image desk.held ≡ None
    → ((fault : AnyFault) → fault_of_image name desk.held ≡ Some fault
    → first_fault c desk.held ≡ Some (roles.Image, fault)) → OpenStop s name desk → InputStop s c desk
command_stop (stop.Refused by fault) c name desk input none first (role_is, status, has_line, is) =
    rw role_is (record {
      read = input;
      status = status;
      has_line = has_line;
      first = λ told. first fault (is told);
    })
command_stop (stop.Failed by) c name desk input none first (role_is, inl rose) =
    rw role_is (unread input rose (λ told. none))
command_stop (stop.Failed by) c name desk input none first (role_is, inr (told, is)) =
    rw role_is (missing told (first (Desk Failed) is))
command_stop stop.NoMemory c name desk input none first h = tt

-- a listing stops
pub list_stop : (s : Stop) (name : List ℕ) (desk : DeskChange) → OpenStop s name desk → InputStop s
    (commands.List name) desk
unfolding first_fault
list_stop s name desk h = command_stop s (commands.List name) name desk refl refl (λ fault is. rw is refl) h

-- a run stops
pub run_stop : (s : Stop) (r : Run) (desk : DeskChange) → OpenStop s r.image desk → InputStop s (commands.Run r) desk
unfolding first_fault
run_stop s r desk h = command_stop s (commands.Run r) r.image desk refl refl (λ fault is. rw is refl) h

-- a judgement stops
pub judge_stop : (s : Stop) (j : JudgeOf) (desk : DeskChange) → OpenStop s j.image desk
    → InputStop s (commands.Judge j) desk
unfolding first_fault
judge_stop s j desk h = command_stop s (commands.Judge j) j.image desk refl refl (λ fault is. rw is refl) h

-- an image without a fault is a listing's whole input
pub list_accepted : (name : List ℕ) (held : Files) → fault_of_image name held ≡ None
    → first_fault (commands.List name) held ≡ None
unfolding first_fault
list_accepted name held is = rw is refl

-- and, with the script, a run's
pub run_accepted : (r : Run) (held : Files) → fault_of_image r.image held ≡ None → fault_of_script r held ≡ None
    → first_fault (commands.Run r) held ≡ None
unfolding first_fault
run_accepted r held is script = rw (is, script) refl

-- and, with the trace, a judgement's
pub judge_accepted : (j : JudgeOf) (held : Files) → fault_of_image j.image held ≡ None → fault_of_trace j held ≡ None
    → first_fault (commands.Judge j) held ≡ None
unfolding first_fault
judge_accepted j held is trace = rw (is, trace) refl
