-- The first fault of a command's inputs, in the order of work: each input is read and refused before the next one is
-- read (this project's own).
use Rattle.std.specs.Prelude.{ℕ, ◌==◌, List, [], length, if◌then◌else◌, nat_lt, Option, None, Some, Result, Ok, Err}
use Rattle.tm_base.specs.declared.limits.TheConstants.{TOPOLOGY_BYTES, TEMPLATE_BYTES, IMAGE_BYTES}
use Rattle.tm_desk.specs.Causes.{Files}
use Rattle.tm_desk.specs.declared.desk.DeskError.TheVariants.{Failed, TooLong}
use Rattle.tm_plan_map.specs.declared.admitted.Admitted.{Admitted}
use Rattle.tm_refusals.specs.declared.role.Role.{Role}
use Rattle.tm_refusals.specs.declared.role.Role.TheVariants as roles
use Rattle.tm_refusals.specs.declared.inputs.InputFault.{InputFault}
use Rattle.tm_image_inputs.specs.Inputs.{topology_refusal, inputs}
use Rattle.tm_refusals.specs.declared.image.ImageFault.{ImageFault}
use Rattle.tm_image_build.specs.Opened.{opened}
use Rattle.tm_top_line.specs.declared.fault.AnyFault.{AnyFault}
use Rattle.tm_top_line.specs.declared.fault.AnyFault.TheVariants.{Input, Image, Script, Desk, Trace, Judge}
use Rattle.tm_elf_write.specs.declared.parts.Parts.{Parts}
use Rattle.tm_refusals.specs.declared.elf.ElfFault.{ElfFault}
use Rattle.tm_elf.specs.Read.{elf_of}
use Rattle.tm_plan_cases.specs.declared.cases.Cases.{Cases}
use Rattle.tm_plan_cases.specs.declared.program.Program.{Program}
use Rattle.tm_plan_script.specs.declared.faults.FaultLine.{FaultLine}
use Rattle.tm_image_build.specs.Built.{program_from}
use Rattle.tm_fault.specs.declared.fault.FaultScriptFault.{FaultScriptFault}
use Rattle.tm_fault.specs.Script.{script_of}
use Rattle.tm_trace.specs.declared.trace.TraceFault.{TraceFault}
use Rattle.tm_trace.specs.Reading.{Traced, trace_of}
use Rattle.tm_judge.specs.declared.answers.JudgeFault.TheVariants.{Harts}
use Rattle.tm_world.specs.Place.{harts}
use Rattle.tm_words.specs.declared.command.Build.{Build}
use Rattle.tm_words.specs.declared.command.Judge.{Judge as JudgeOf}
use Rattle.tm_words.specs.declared.command.Run.{Run}
use Rattle.tm_words.specs.declared.command.Command.{Command}
use Rattle.tm_words.specs.declared.command.Command.TheVariants as commands
use Rattle.tm_top_owed.specs.declared.sizes.TheConstants.{FAULTS_BYTES, TRACE_BYTES}

-- ---- refusals

-- why a reading was refused
abbrev pub refusal_of : Result Admitted InputFault → Option InputFault
refusal_of (Ok test) = None
refusal_of (Err fault) = Some fault

-- a text's refusal as one of all faults
abbrev pub as_fault : Option InputFault → Option AnyFault
as_fault None = None
as_fault (Some fault) = Some (Input fault)

-- why a file wasn't opened as an image, as one of all faults
abbrev pub not_opened : Result (List ℕ) ImageFault → Option AnyFault
not_opened (Ok file) = None
not_opened (Err fault) = Some (Image fault)

-- why a topology is refused
abbrev pub refused_topology : List ℕ → Option AnyFault
refused_topology text = as_fault (topology_refusal text)

-- why a template is refused, behind a topology
abbrev pub refused_template : List ℕ → List ℕ → Option AnyFault
refused_template topo text = as_fault (refusal_of (inputs topo text))

-- why an image is refused
abbrev pub refused_image : List ℕ → Option AnyFault
refused_image bytes = not_opened (opened bytes)

-- why a text isn't a script, as one of all faults
abbrev pub not_read : Result (List FaultLine) FaultScriptFault → Option AnyFault
not_read (Ok lines) = None
not_read (Err fault) = Some (Script fault)

-- why a script is refused over these cases
abbrev pub refused_script : Cases → List ℕ → Option AnyFault
refused_script cases text = not_read (script_of cases text)

-- why what a text was read as isn't judged over so many harts, as one of all faults: it is no trace, or one of another
-- number of harts
abbrev pub not_judged : (count : ℕ) → Result Traced TraceFault → Option AnyFault
not_judged count (Ok trace) = if trace.0 == count then None else Some (Judge (Harts trace.0))
not_judged count (Err fault) = Some (Trace fault)

-- why a trace is refused over a program
abbrev pub refused_trace : Program → List ℕ → Option AnyFault
refused_trace program text = not_judged (harts program) (trace_of text)

-- the fault of an input: it isn't held, it is longer than its limit, or it is refused
abbrev pub fault_of_input : ℕ → (List ℕ → Option AnyFault) → Option (List ℕ) → Option AnyFault
fault_of_input max refused None = Some (Desk Failed)
fault_of_input max refused (Some bytes) = if nat_lt max (length bytes) then Some (Desk (TooLong max)) else refused bytes

-- ---- the inputs that are held

-- the fault of the topology that is held
unfoldable pub fault_of_topology : Build → Files → Option AnyFault
fault_of_topology b files = fault_of_input TOPOLOGY_BYTES refused_topology (files b.topo)

-- the text of a file, where it is held
abbrev pub text_of : Option (List ℕ) → List ℕ
text_of None = []
text_of (Some text) = text

-- the fault of the template that is held, behind the topology that is
unfoldable pub fault_of_template : Build → Files → Option AnyFault
fault_of_template b files = fault_of_input TEMPLATE_BYTES (refused_template (text_of (files b.topo))) (files b.template)

-- the fault of the image that is held
unfoldable pub fault_of_image : List ℕ → Files → Option AnyFault
fault_of_image image files = fault_of_input IMAGE_BYTES refused_image (files image)

-- the program of what its inputs are read as, if they ask for one
abbrev pub made_of : Result Program InputFault → Option Program
made_of (Ok program) = Some program
made_of (Err fault) = None

-- the program that is made of a plan, if the file has the form of an image
abbrev pub planned : Result Parts ElfFault → Option Program
planned (Ok parts) = made_of (program_from parts.plan.seed (inputs parts.plan.topo parts.plan.template))
planned (Err fault) = None

-- the program of an image's file
unfoldable pub program_in : List ℕ → Option Program
program_in file = planned (elf_of file)

-- the fault of the script that is held under a name, over a program's cases, where one is asked for
abbrev pub fault_over : Option (List ℕ) → Cases → Files → Option AnyFault
fault_over None cases files = None
fault_over (Some name) cases files = fault_of_input FAULTS_BYTES (refused_script cases) (files name)

-- the same behind an image of this program; none where there is no program, since the image is refused before
abbrev pub fault_behind : Option (List ℕ) → Option Program → Files → Option AnyFault
fault_behind name None files = None
fault_behind name (Some program) files = fault_over name program.cases files

-- the fault of the script that a run asks for, over the cases of the image that is held
unfoldable pub fault_of_script : Run → Files → Option AnyFault
fault_of_script r files = fault_behind r.faults (program_in (text_of (files r.image))) files

-- the fault of the trace that is held under a name, over a program
abbrev pub trace_over : List ℕ → Program → Files → Option AnyFault
trace_over name program files = fault_of_input TRACE_BYTES (refused_trace program) (files name)

-- the same behind an image of this program; none where there is no program, since the image is refused before
abbrev pub trace_behind : List ℕ → Option Program → Files → Option AnyFault
trace_behind name None files = None
trace_behind name (Some program) files = trace_over name program files

-- the fault of the trace that is to be judged, over the image that is held
unfoldable pub fault_of_trace : JudgeOf → Files → Option AnyFault
fault_of_trace j files = trace_behind j.trace (program_in (text_of (files j.image))) files

-- a fault with its role, or else the first one behind it
abbrev pub or_behind : Role → Option AnyFault → Option (Role × AnyFault) → Option (Role × AnyFault)
or_behind role None behind = behind
or_behind role (Some fault) behind = Some (role, fault)

-- the first fault of a command's inputs; a sample has no input, since its two texts are accepted whatever its number
-- (tm_sample, `always_accepted`)
unfoldable pub first_fault : Command → Files → Option (Role × AnyFault)
first_fault (commands.Build b) files =
    or_behind roles.Topology (fault_of_topology b files) (or_behind roles.Template (fault_of_template b files) None)
first_fault (commands.List image) files = or_behind roles.Image (fault_of_image image files) None
first_fault (commands.Run r) files =
    or_behind roles.Image (fault_of_image r.image files) (or_behind roles.Faults (fault_of_script r files) None)
first_fault (commands.Sample number) files = None
first_fault (commands.Judge j) files =
    or_behind roles.Image (fault_of_image j.image files) (or_behind roles.Trace (fault_of_trace j files) None)

-- the first fault of the inputs that are read before that of a role
abbrev pub fault_before : Command → Role → Files → Option AnyFault
fault_before (commands.Build b) roles.Template files = fault_of_topology b files
fault_before (commands.Run r) roles.Faults files = fault_of_image r.image files
fault_before (commands.Judge j) roles.Trace files = fault_of_image j.image files
fault_before _ _ files = None
