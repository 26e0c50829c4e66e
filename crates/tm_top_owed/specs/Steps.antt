-- What the steps of a call leave (this project's own).
use Rattle.std.specs.Prelude.{◌≡◌, ◌⊎◌, ◌<◌, ℕ, List, [], length, Bool, IsTrue, IsFalse, Option, None, Some, IsSomeAnd}
use Rattle.std.specs.Prelude.{Result, Err}
use Rattle.tm_desk.specs.Causes.{Files, Rose}
use Rattle.tm_desk.specs.declared.desk.DeskError.TheVariants.{Failed, TooLong}
use Rattle.tm_refusals.specs.declared.role.Role.{Role}
use Rattle.tm_refusals.specs.declared.role.Role.TheVariants as roles
use Rattle.tm_refusals.specs.declared.image.ImageFault.{ImageFault}
use Rattle.tm_plan_cases.specs.declared.program.Program.{Program}
use Rattle.tm_top_line.specs.declared.fault.AnyFault.TheVariants.{Image, Desk}
use Rattle.tm_top_line.specs.Lines.{fault_text, wants_memory}
use Rattle.tm_top_owed.specs.declared.stop.Stop.{Stop}
use Rattle.tm_top_owed.specs.declared.stop.Stop.TheVariants as stop
use Rattle.tm_words.specs.declared.command.Command.{Command}
use Rattle.tm_top_owed.specs.Inputs.{fault_of_image}
use Rattle.tm_top_owed.specs.Changes.{DeskChange, SinkChange, DeskFailed, Said, TookFronts}
use Rattle.tm_top_owed.specs.Owed.{IsOpened, IsRefusal, InputFailure, IsFailure, IsUntouched, IsUnfinished, status_of}

-- why the read of a role's file stopped: told says that the desk tells its files, and file is what it holds under the
-- name
abbrev pub ReadStop : Stop → Role → Type 0 → Option (List ℕ) → ℕ → ℕ → ℕ → Type 0
ReadStop (stop.Refused by fault) role told file max before now =
    (by ≡ role) × (fault ≡ Desk (TooLong max)) × (told → IsSomeAnd file (λ text. max < length text))
ReadStop (stop.Failed by) role told file max before now =
    (by ≡ role) × (Rose before now ⊎ (told × (file ≡ None)))
ReadStop stop.NoMemory role told file max before now = Unit {0}

-- why a file isn't opened as an image
abbrev pub FileStop : Stop → Result (List ℕ) ImageFault → Type 0
FileStop (stop.Refused by fault) opened =
    (refusal : ImageFault) × (opened ≡ Err refusal) × (by ≡ roles.Image) × (fault ≡ Image refusal)
    × IsFalse (wants_memory (Image refusal))
FileStop (stop.Failed by) opened = ⊥
FileStop stop.NoMemory opened = Unit {0}

-- why the image of a name isn't opened: it is refused with its fault, the desk's count rose, or it isn't held
abbrev pub OpenStop : Stop → List ℕ → DeskChange → Type 0
OpenStop (stop.Refused by fault) name desk =
    (by ≡ roles.Image) × (status_of fault ≡ 3) × IsFalse (wants_memory fault)
    × (IsTrue desk.tells → fault_of_image name desk.held ≡ Some fault)
OpenStop (stop.Failed by) name desk =
    (by ≡ roles.Image)
    × (DeskFailed desk ⊎ (IsTrue desk.tells × (fault_of_image name desk.held ≡ Some (Desk Failed))))
OpenStop stop.NoMemory name desk = Unit {0}

-- The program and the seed are those of the image that is held under a name, and that has no fault.
pub record IsHeldImage (name : List ℕ) (tells : Bool) (held : Files) (program : Program) (seed : ℕ) : Type 0 where
  pub file : List ℕ
  pub image : IsOpened file program seed
  pub read : IsTrue tells → held name ≡ Some file
  pub accepted : IsTrue tells → fault_of_image name held ≡ None

-- why a step at the file of a role, or at the output, stopped: a count rose
abbrev pub PutStop : Stop → Role → ℕ → ℕ → Type 0
PutStop (stop.Refused by fault) role before now = ⊥
PutStop (stop.Failed by) role before now = (by ≡ role) × Rose before now
PutStop stop.NoMemory role before now = Unit {0}

-- why the inputs of a command stop it
abbrev pub InputStop : Stop → Command → DeskChange → Type 0
InputStop (stop.Refused role fault) c desk = IsRefusal c desk role fault
InputStop (stop.Failed role) c desk = InputFailure c desk role
InputStop stop.NoMemory c desk = Unit {0}

-- why a command stopped, and what it leaves
abbrev pub Stopped : Stop → Command → DeskChange → SinkChange → Type 0
Stopped (stop.Refused role fault) c desk out = IsRefusal c desk role fault × IsUntouched desk out
Stopped (stop.Failed role) c desk out = IsFailure c desk out role
Stopped stop.NoMemory c desk out = IsUnfinished c desk out

-- a stop whose fault has a line
abbrev pub IsTellable : Stop → Type 0
IsTellable (stop.Refused role fault) = IsFalse (wants_memory fault)
IsTellable (stop.Failed role) = Unit {0}
IsTellable stop.NoMemory = Unit {0}

-- a text was said with its status, or memory was wanting for it
pub data Told (err : SinkChange) (text : List ℕ) (its status : ℕ) : Type 0 where
  told_whole : status ≡ its → Said err text → Told err text its status
  told_short : status ≡ 6 → TookFronts err text → Told err text its status

-- what the report of a stop leaves, and the status that it answers
abbrev pub Reported : Stop → SinkChange → ℕ → Type 0
Reported (stop.Refused role fault) err status = Told err (fault_text role fault) 3 status
Reported (stop.Failed role) err status = Told err (fault_text role (Desk Failed)) 5 status
Reported stop.NoMemory err status = (status ≡ 6) × TookFronts err []
