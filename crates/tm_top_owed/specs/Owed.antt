-- What a command owes: what its files, its sinks and its journal are after it, by the status that it ends with (this
-- project's own).
use Rattle.std.specs.Prelude.{◌≡◌, ◌≢◌, ◌⊎◌, ◌&&◌, if◌then◌else◌, ℕ, ◌≤◌, Bool, true, false, IsTrue, IsFalse}
use Rattle.std.specs.Prelude.{List, [], length, Option, None}
use Rattle.std.specs.Prelude.{Some, Ok}
use Rattle.tm_base.specs.declared.limits.TheConstants.{DEFAULT_EVENTS}
use Rattle.tm_desk.specs.Causes.{Files}
use Rattle.tm_desk.specs.declared.desk.DeskError.TheVariants.{Failed, TooLong, NoMemory}
use Rattle.tm_plan_map.specs.declared.admitted.Admitted.{Admitted}
use Rattle.tm_plan_cases.specs.declared.program.Program.{Program}
use Rattle.tm_plan_cases.specs.Collected.{budget_of}
use Rattle.tm_plan_cases.specs.declared.event.Event.{Event}
use Rattle.tm_gen.specs.Gen.{gen_of}
use Rattle.tm_world.specs.Sound.{Sound}
use Rattle.tm_elf_write.specs.declared.parts.Parts.{Parts}
use Rattle.tm_elf.specs.Read.{elf_of}
use Rattle.tm_refusals.specs.declared.role.Role.{Role}
use Rattle.tm_refusals.specs.declared.role.Role.TheVariants as roles
use Rattle.tm_image_inputs.specs.Inputs.{inputs}
use Rattle.tm_image_build.specs.Built.{built, image_file, program_from}
use Rattle.tm_image_build.specs.Opened.{opened, rebuilt}
use Rattle.tm_report.specs.Listing.{listing}
use Rattle.tm_top_line.specs.declared.fault.AnyFault.{AnyFault}
use Rattle.tm_top_line.specs.declared.fault.AnyFault.TheVariants.{Input, Image, Script, Desk, Trace, Judge}
use Rattle.tm_top_line.specs.Lines.{fault_text, wants_memory}
use Rattle.tm_top_line.specs.Judgements.{judgement_text}
use Rattle.tm_words.specs.declared.command.Build.{Build}
use Rattle.tm_words.specs.declared.command.Judge.{Judge as JudgeOf}
use Rattle.tm_words.specs.declared.command.Run.{Run}
use Rattle.tm_words.specs.declared.command.Command.{Command}
use Rattle.tm_words.specs.declared.command.Command.TheVariants as commands
use Rattle.tm_words.specs.Form.{Ask}
use Rattle.tm_fault.specs.Spelled.{IsScript}
use Rattle.tm_trace.specs.Text.{trace_text}
use Rattle.tm_trace.specs.Reading.{trace_of}
use Rattle.tm_judge.specs.declared.answers.Answer.{Answer}
use Rattle.tm_judge.specs.declared.answers.Answer.TheVariants.{Yes, No}
use Rattle.tm_judge.specs.declared.answers.Judgement.{Judgement}
use Rattle.tm_judge.specs.Judged.{Judged}
use Rattle.tm_plan_cases.specs.declared.cases.Cases.{Cases}
use Rattle.tm_plan_script.specs.declared.faults.FaultLine.{FaultLine}
use Rattle.tm_world.specs.Place.{harts}
use Rattle.tm_top_owed.specs.declared.sizes.TheConstants.{FAULTS_BYTES, TRACE_BYTES}
use Rattle.tm_top_owed.specs.Texts.{usage, built_line}
use Rattle.tm_top_owed.specs.Inputs.{first_fault, fault_before}
use Rattle.tm_top_owed.specs.Runs.{guest_of, IsRunUnder, IsRoundOrder, InOrder, IsTold, verdicts_in}
use Rattle.tm_sample.specs.Texts.{sample_topology, sample_template}
use Rattle.tm_top_owed.specs.Sample.{summary}
use Rattle.tm_guest.specs.Guested.{Guested}
use Rattle.tm_guest.specs.Rounds.{AllHalted}
use Rattle.tm_top_owed.specs.Changes.{DeskChange, SinkChange, DeskFailed, SinkFailed}
use Rattle.tm_top_owed.specs.Changes.{FilesStay, OtherFilesStay, Silent, Took, TookFront, TookFronts, Said}

-- ---- how a job ends

-- What a command prints when its job is done, the status that it ends with, and the journal of its simulation, if it
-- made one.
pub record Ending : Type 0 where
  pub text : List ℕ
  pub status : ℕ
  pub journal : Option (List Event)

-- status 0, and no simulation
abbrev pub IsPlainEnd : Ending → Type 0
IsPlainEnd e = (e.status ≡ 0) × (e.journal ≡ None)

-- ---- a build

-- A program and its file are what is built of two texts and a seed: its cases are those that the seed draws for the
-- test that the texts ask for; and it is sound.
pub record IsBuiltOf (topo template : List ℕ) (seed : ℕ) (program : Program) (file : List ℕ) : Type 0 where
  pub its_program : program_from seed (inputs topo template) ≡ Ok program
  pub its_cases : (a : Admitted) → inputs topo template ≡ Ok a → program.cases ≡ gen_of a seed
  pub its_file : built topo template seed ≡ Ok file
  pub of_program : file ≡ image_file program topo template seed
  pub is_sound : Sound program

-- The file is built of two texts and a seed, and the line is that of its program.
pub record IsMadeOf (topo template : List ℕ) (seed : ℕ) (file line : List ℕ) : Type 0 where
  pub program : Program
  pub its : IsBuiltOf topo template seed program file
  pub its_line : line ≡ built_line program file

-- The file and its line are made of the two held texts and the seed, and neither text has a fault.
pub record IsImageOf (b : Build) (tells : Bool) (held : Files) (file line : List ℕ) : Type 0 where
  pub topo : List ℕ
  pub template : List ℕ
  pub made : IsMadeOf topo template b.seed file line
  pub read : IsTrue tells → (held b.topo ≡ Some topo) × (held b.template ≡ Some template)
  pub accepted : IsTrue tells → first_fault (commands.Build b) held ≡ None

-- Such a file was written, and this is its line.
pub record IsWritten (b : Build) (desk : DeskChange) (line : List ℕ) : Type 0 where
  pub file : List ℕ
  pub image : IsImageOf b desk.tells desk.held file line
  pub written : IsTrue desk.tells → desk.holds b.out ≡ Some file

-- ---- a listing

-- The file is an image: it is what is built of its own plan, of this program and seed, and the program is sound.
pub record IsOpened (file : List ℕ) (program : Program) (seed : ℕ) : Type 0 where
  pub parts : Parts
  pub form : elf_of file ≡ Ok parts
  pub again : rebuilt parts ≡ Ok file
  pub its_seed : seed ≡ parts.plan.seed
  pub its_program : program_from parts.plan.seed (inputs parts.plan.topo parts.plan.template) ≡ Ok program
  pub is_sound : Sound program
  pub accepted : opened file ≡ Ok file

-- The text is the listing of an image.
pub record IsListingIn (file text : List ℕ) : Type 0 where
  pub program : Program
  pub seed : ℕ
  pub image : IsOpened file program seed
  pub its_text : text ≡ listing program seed

-- The text is the listing of the held image, and that has no fault.
pub record IsListingOf (image : List ℕ) (tells : Bool) (held : Files) (text : List ℕ) : Type 0 where
  pub file : List ℕ
  pub of_file : IsListingIn file text
  pub read : IsTrue tells → held image ≡ Some file
  pub accepted : IsTrue tells → first_fault (commands.List image) held ≡ None

-- ---- a run

-- The text that is held under a name is within the limit, and is a script over a program's cases, of these lines.
pub record IsScriptIn (name : List ℕ) (cases : Cases) (tells : Bool) (held : Files) (lines : List FaultLine) :
    Type 0 where
  pub text : List ℕ
  pub script : IsScript cases text lines
  pub short : length text ≤ FAULTS_BYTES
  pub read : IsTrue tells → held name ≡ Some text

-- The lines are those of the script that a run asks for, over the cases of its image; there are none where it asks for
-- no script.
abbrev pub IsHeldScript : Option (List ℕ) → Cases → Bool → Files → List FaultLine → Type 0
IsHeldScript None cases tells held lines = lines ≡ []
IsHeldScript (Some name) cases tells held lines = IsScriptIn name cases tells held lines

-- The program is that of the held image, the lines are those of the held script, and neither has a fault.
pub record IsRunOn (r : Run) (tells : Bool) (held : Files) (program : Program) (lines : List FaultLine) :
    Type 0 where
  pub file : List ℕ
  pub seed : ℕ
  pub image : IsOpened file program seed
  pub read : IsTrue tells → held r.image ≡ Some file
  pub script : IsHeldScript r.faults program.cases tells held lines
  pub accepted : IsTrue tells → first_fault (commands.Run r) held ≡ None

-- What it ends as is how a simulation of the program under the lines is told: one of at most the events that the run
-- asks for, in round order where it asks for that. Without lines no case is reported; and where as many events are
-- allowed as the program's budget, all harts come to halt, whatever the lines.
pub record IsRunAs (r : Run) (program : Program) (lines : List FaultLine) (events : List Event) (e : Ending) :
    Type 0 where
  pub its_journal : e.journal ≡ Some events
  pub simulated : IsRunUnder program lines r.events events
  pub in_order : InOrder r.threads program lines r.events events
  pub told : IsTold (guest_of program lines r.events events) e.text e.status
  pub silent : lines ≡ [] → e.status ≢ 1
  pub ends : budget_of program.cases ≤ r.events → e.status ≢ 4

-- the file of the trace that is asked for, if one is, holds the text of these events of so many harts
abbrev pub HoldsTrace : Option (List ℕ) → (count : ℕ) → List Event → (tells : Bool) → (holds : Files) → Type 0
HoldsTrace None count events tells holds = Unit {0}
HoldsTrace (Some name) count events tells holds = IsTrue tells → holds name ≡ Some (trace_text count events)

-- The held image was run under the held script, and the trace was written that is asked for.
pub record IsRunOf (r : Run) (desk : DeskChange) (e : Ending) : Type 0 where
  pub program : Program
  pub lines : List FaultLine
  pub events : List Event
  pub its : IsRunOn r desk.tells desk.held program lines
  pub run : IsRunAs r program lines events e
  pub traced : HoldsTrace r.trace (harts program) events desk.tells desk.holds

-- ---- a sample

-- How the sample of a number is told: all harts come to halt, and it is told with its summary, with status 0.
pub record IsSummed (number : ℕ) (g : Guested) (text : List ℕ) (status : ℕ) : Type 0 where
  pub halted : AllHalted g
  pub its_text : text ≡ summary number g.program.cases (verdicts_in g)
  pub is_status : status ≡ 0

-- The image of a sample's texts, with its number as the seed, was simulated in round order.
pub record IsSampleOf (number : ℕ) (e : Ending) : Type 0 where
  pub program : Program
  pub file : List ℕ
  pub its : IsBuiltOf (sample_topology number) (sample_template number) number program file
  pub events : List Event
  pub its_journal : e.journal ≡ Some events
  pub simulated : IsRunUnder program [] DEFAULT_EVENTS events
  pub in_order : IsRoundOrder program [] DEFAULT_EVENTS events
  pub told : IsSummed number (guest_of program [] DEFAULT_EVENTS events) e.text e.status

-- ---- a judgement

-- the answer is yes
abbrev pub is_yes : Answer → Bool
is_yes Yes = true
is_yes (No place why) = false

-- the status of a judgement: 0 where all three answers are yes, and else 1
abbrev pub status_judged : Judgement → ℕ
status_judged j = if is_yes j.path && (is_yes j.plain && is_yes j.legal) then 0 else 1

-- The text that is held under a name is within the limit, and is a trace of so many harts and these events.
pub record IsHeldTrace (name : List ℕ) (tells : Bool) (held : Files) (count : ℕ) (events : List Event) : Type 0 where
  pub text : List ℕ
  pub its : trace_of text ≡ Ok (count, events)
  pub short : length text ≤ TRACE_BYTES
  pub read : IsTrue tells → held name ≡ Some text

-- The judgement gives the three true answers for the held image and the held trace, whose harts are so many, and
-- neither has a fault.
pub record IsJudgementOf (j : JudgeOf) (tells : Bool) (held : Files) (judgement : Judgement) : Type 0 where
  pub file : List ℕ
  pub program : Program
  pub seed : ℕ
  pub image : IsOpened file program seed
  pub read : IsTrue tells → held j.image ≡ Some file
  pub events : List Event
  pub trace : IsHeldTrace j.trace tells held (harts program) events
  pub judged : Judged program events judgement
  pub accepted : IsTrue tells → first_fault (commands.Judge j) held ≡ None

-- Such a judgement is told, with its status; no simulation was made.
pub record IsJudgedOf (j : JudgeOf) (desk : DeskChange) (e : Ending) : Type 0 where
  pub judgement : Judgement
  pub its : IsJudgementOf j desk.tells desk.held judgement
  pub its_text : e.text ≡ judgement_text judgement
  pub its_status : e.status ≡ status_judged judgement
  pub no_journal : e.journal ≡ None

-- ---- each command

-- this is how the command ends, and all that comes before its text is done
abbrev pub IsReady : Command → DeskChange → Ending → Type 0
IsReady (commands.Build b) desk e = IsWritten b desk e.text × IsPlainEnd e
IsReady (commands.List image) desk e = IsListingOf image desk.tells desk.held e.text × IsPlainEnd e
IsReady (commands.Run r) desk e = IsRunOf r desk e
IsReady (commands.Sample number) desk e = IsSampleOf number e
IsReady (commands.Judge j) desk e = IsJudgedOf j desk e

-- The job was done: all that comes before the text, and the text was printed.
pub record IsDone (c : Command) (desk : DeskChange) (out : SinkChange) (status : ℕ) (journal : Option (List Event)) :
    Type 0 where
  pub text : List ℕ
  pub ready : IsReady c desk (record { text = text; status = status; journal = journal })
  pub printed : Took out text

-- all files but that of the trace, if one is asked for, are as at entry
abbrev pub AllButTraceStay : Option (List ℕ) → DeskChange → Type 0
AllButTraceStay None desk = FilesStay desk
AllButTraceStay (Some name) desk = OtherFilesStay desk name

-- all files that the command doesn't write are as at entry
abbrev pub RestStays : Command → DeskChange → Type 0
RestStays (commands.Build b) desk = OtherFilesStay desk b.out
RestStays (commands.Run r) desk = AllButTraceStay r.trace desk
RestStays _ desk = FilesStay desk

-- this role, where a name is given
abbrev pub role_of : Role → Option (List ℕ) → Option Role
role_of role None = None
role_of role (Some name) = Some role

-- the role of the file that the command writes, if it writes one
abbrev pub writes : Command → Option Role
writes (commands.Build b) = Some roles.Output
writes (commands.Run r) = role_of roles.Trace r.trace
writes _ = None

-- a name is given
abbrev pub is_given : Option (List ℕ) → Bool
is_given None = false
is_given (Some name) = true

-- the command reads the file of a role
abbrev pub reads : Command → Role → Bool
reads (commands.Build b) roles.Topology = true
reads (commands.Build b) roles.Template = true
reads (commands.List image) roles.Image = true
reads (commands.Run r) roles.Image = true
reads (commands.Run r) roles.Faults = is_given r.faults
reads (commands.Judge j) roles.Image = true
reads (commands.Judge j) roles.Trace = true
reads _ _ = false

-- ---- faults

-- the status of a fault: 3 for a refusal, 5 for a failure
abbrev pub status_of : AnyFault → ℕ
status_of (Input fault) = 3
status_of (Image fault) = 3
status_of (Script fault) = 3
status_of (Trace fault) = 3
status_of (Judge fault) = 3
status_of (Desk (TooLong max)) = 3
status_of (Desk Failed) = 5
status_of (Desk NoMemory) = 6

-- The fault is a refusal of a file that the command reads, and the first fault of the command's inputs. A sample reads
-- no file, so that it is never refused.
pub record IsRefusal (c : Command) (desk : DeskChange) (role : Role) (fault : AnyFault) : Type 0 where
  pub read : IsTrue (reads c role)
  pub status : status_of fault ≡ 3
  pub has_line : IsFalse (wants_memory fault)
  pub first : IsTrue desk.tells → first_fault c desk.held ≡ Some (role, fault)

-- an input failed, and none that is read before it is at fault: the desk's count rose, or the input isn't held
pub data InputFailure (c : Command) (desk : DeskChange) (role : Role) : Type 0 where
  unread : IsTrue (reads c role) → DeskFailed desk → (IsTrue desk.tells → fault_before c role desk.held ≡ None)
      → InputFailure c desk role
  missing : IsTrue desk.tells → first_fault c desk.held ≡ Some (role, Desk Failed) → InputFailure c desk role

-- ---- how far a command came that ended before its job was done

-- It wrote and printed nothing: all files and the output are as at entry.
pub record IsUntouched (desk : DeskChange) (out : SinkChange) : Type 0 where
  pub files : FilesStay desk
  pub output : Silent out

-- Its write of the file of a role was begun, and not ended: no input is at fault, and nothing was printed. Of that file
-- nothing is known.
pub record IsUnwritten (c : Command) (role : Role) (desk : DeskChange) (out : SinkChange) : Type 0 where
  pub writes : writes c ≡ Some role
  pub accepted : IsTrue desk.tells → first_fault c desk.held ≡ None
  pub output : Silent out

-- Its printing was begun, and not ended: all that comes before it is done, and of its text a front was printed,
-- which may be empty.
pub record IsUnprinted (c : Command) (desk : DeskChange) (out : SinkChange) : Type 0 where
  pub ending : Ending
  pub ready : IsReady c desk ending
  pub printed : TookFront out ending.text

-- one of the three
pub data IsUnfinished (c : Command) (desk : DeskChange) (out : SinkChange) : Type 0 where
  untouched : IsUntouched desk out → IsUnfinished c desk out
  unwritten : (role : Role) → IsUnwritten c role desk out → IsUnfinished c desk out
  unprinted : IsUnprinted c desk out → IsUnfinished c desk out

-- the file of this role failed: an input, before anything was written or printed; the file that is written, where the
-- desk's count rose and the write didn't end; or the output, where the sink's count did and the printing didn't
pub data IsFailure (c : Command) (desk : DeskChange) (out : SinkChange) (role : Role) : Type 0 where
  at_input : InputFailure c desk role → IsUntouched desk out → IsFailure c desk out role
  at_write : DeskFailed desk → IsUnwritten c role desk out → IsFailure c desk out role
  at_print : role ≡ roles.Output → SinkFailed out → IsUnprinted c desk out → IsFailure c desk out role

-- a line that a command may begin on the error sink before memory is wanting, with how far it came: none, or that
-- of its refusal or failure
pub data MayBegin (c : Command) (desk : DeskChange) (out : SinkChange) (text : List ℕ) : Type 0 where
  no_line : text ≡ [] → IsUnfinished c desk out → MayBegin c desk out text
  refusal_line : (role : Role) (fault : AnyFault) → IsRefusal c desk role fault → IsUntouched desk out
      → text ≡ fault_text role fault → MayBegin c desk out text
  failure_line : (role : Role) → IsFailure c desk out role → text ≡ fault_text role (Desk Failed)
      → MayBegin c desk out text

-- ---- the statuses

-- How a call ended whose words are this command, or none: there are these statuses alone, and this holds with each.
-- Only where a job was done there may be a journal.
pub data Ended (asked : Option Command) (desk : DeskChange) (out err : SinkChange) (journal : Option (List Event))
    (status : ℕ) : Type 0 where
  -- the job was done, and no file changed that the command doesn't write
  done : (c : Command) → asked ≡ Some c → IsDone c desk out status journal → RestStays c desk
      → Silent err → Ended asked desk out err journal status
  -- the words are no command: all is as it was, but for the usage text
  no_command : status ≡ 2 → journal ≡ None → asked ≡ None → FilesStay desk → Silent out
      → Said err usage → Ended asked desk out err journal status
  -- an input was refused: all is as it was, but for the line of the first refusal
  refused : (c : Command) (role : Role) (fault : AnyFault) → status ≡ 3 → journal ≡ None → asked ≡ Some c
      → IsRefusal c desk role fault → IsUntouched desk out → Said err (fault_text role fault)
      → Ended asked desk out err journal status
  -- the outside failed: at an input all is as it was, at the write nothing was printed, and at the printing the file
  -- is written and a front of its text may have been printed
  failed : (c : Command) (role : Role) → status ≡ 5 → journal ≡ None → asked ≡ Some c → IsFailure c desk out role
      → RestStays c desk → Said err (fault_text role (Desk Failed)) → Ended asked desk out err journal status
  -- no memory for the usage text
  no_memory_for_usage : status ≡ 6 → journal ≡ None → asked ≡ None → FilesStay desk → Silent out
      → TookFronts err usage → Ended asked desk out err journal status
  -- no memory for a command, or for its line
  no_memory : (c : Command) (text : List ℕ) → status ≡ 6 → journal ≡ None → asked ≡ Some c → RestStays c desk
      → MayBegin c desk out text → TookFronts err text → Ended asked desk out err journal status

-- where the files are told, the desk's count didn't rise and an input is at fault, the status is that of the first
-- fault, but for want of memory
abbrev pub AlwaysAtFault : Command → DeskChange → ℕ → Type 0
AlwaysAtFault c desk status = (role : Role) (fault : AnyFault) → IsTrue desk.tells → (DeskFailed desk → ⊥)
    → first_fault c desk.held ≡ Some (role, fault) → (status ≡ status_of fault) ⊎ (status ≡ 6)

-- where the files are told, no input is at fault and neither count rose, the job is done, but for want of memory
abbrev pub AlwaysDone : Command → DeskChange → SinkChange → Option (List Event) → ℕ → Type 0
AlwaysDone c desk out journal status = IsTrue desk.tells → (DeskFailed desk → ⊥) → (SinkFailed out → ⊥)
    → first_fault c desk.held ≡ None → IsDone c desk out status journal ⊎ (status ≡ 6)

-- All that a call owes.
pub record Owes (asked : Option Command) (desk : DeskChange) (out err : SinkChange) (journal : Option (List Event))
    (status : ℕ) : Type 0 where
  pub ended : Ended asked desk out err journal status
  -- words that are no command are always refused, but for want of memory
  pub always_usage : asked ≡ None → (status ≡ 2) ⊎ (status ≡ 6)
  pub always_at_fault : (c : Command) → asked ≡ Some c → AlwaysAtFault c desk status
  pub always_done : (c : Command) → asked ≡ Some c → AlwaysDone c desk out journal status

-- All that a call owes for its words, of which only those of commands that wait for nobody count where round_alone is
-- true: what it owes for the command that they ask for, or for none. (They ask for one command or for none, and that is
-- told of all words: tm_words, the law `words_ask`.)
abbrev pub OwesWords : (round_alone : Bool) → List (List ℕ) → DeskChange → SinkChange → SinkChange
    → Option (List Event) → ℕ → Type 0
OwesWords round_alone words desk out err journal status =
    (o : Option Command) → Ask round_alone words o → Owes o desk out err journal status
