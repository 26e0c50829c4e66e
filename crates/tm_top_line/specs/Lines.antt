-- The lines that tell of faults. Source: this project.
use Rattle.std.specs.Prelude.{ℕ, Bool, true, false, List, [], ◌++◌, codes}
use Rattle.tm_desk.specs.declared.desk.DeskError.{DeskError}
use Rattle.tm_desk.specs.declared.desk.DeskError.TheVariants as desk
use Rattle.tm_refusals.specs.declared.elf.ElfFault.{ElfFault}
use Rattle.tm_refusals.specs.declared.elf.ElfFault.TheVariants as elf
use Rattle.tm_refusals.specs.declared.role.Role.{Role}
use Rattle.tm_refusals.specs.declared.role.Role.TheVariants.{Topology, Template, Image, Faults, Trace, Output}
use Rattle.tm_refusals.specs.declared.image.ImageFault.{ImageFault}
use Rattle.tm_refusals.specs.declared.image.ImageFault.TheVariants as image
use Rattle.tm_top_line.specs.declared.fault.AnyFault.{AnyFault}
use Rattle.tm_top_line.specs.declared.fault.AnyFault.TheVariants as any
use Rattle.tm_top_line.specs.Inputs.{with_value, input_text, input_wants}
use Rattle.tm_top_line.specs.Scripts.{script_text, script_wants}
use Rattle.tm_top_line.specs.Traces.{trace_fault_text, trace_wants, judge_fault_text, judge_wants}

-- how a line names the file that it speaks of (this project)
abbrev pub role_name : Role → List ℕ
role_name Topology = codes "topology"
role_name Template = codes "template"
role_name Image = codes "image"
role_name Faults = codes "faults"
role_name Trace = codes "trace"
role_name Output = codes "output"

-- the fault of a file's form; want of memory has no text (this project)
abbrev pub elf_text : ElfFault → List ℕ
elf_text (elf.Short have) = with_value (codes "Short") have
elf_text elf.BadMagic = codes "BadMagic"
elf_text (elf.NotRiscv machine) = with_value (codes "NotRiscv") machine
elf_text (elf.NotExec kind) = with_value (codes "NotExec") kind
elf_text (elf.BadHeader field) = with_value (codes "BadHeader") field
elf_text (elf.BadSegment index) = with_value (codes "BadSegment") index
elf_text elf.NoPlan = codes "NoPlan"
elf_text (elf.BadSymbol index) = with_value (codes "BadSymbol") index
elf_text (elf.Differs offset) = with_value (codes "Differs") offset
elf_text elf.NoMemory = []

-- the fault of an image; want of memory has no text (this project)
abbrev pub image_text : ImageFault → List ℕ
image_text (image.Elf fault) = codes "Elf " ++ elf_text fault
image_text (image.Inputs fault) = codes "Inputs " ++ input_text fault
image_text (image.Differs offset) = with_value (codes "Differs") offset
image_text image.NoMemory = []

-- the fault of a desk; want of memory has no text (this project)
abbrev pub desk_text : DeskError → List ℕ
desk_text desk.Failed = codes "Failed"
desk_text (desk.TooLong max) = with_value (codes "TooLong") max
desk_text desk.NoMemory = []

-- the names of a fault's variants from outside in, each with its values (this project)
abbrev pub any_text : AnyFault → List ℕ
any_text (any.Input fault) = input_text fault
any_text (any.Image fault) = image_text fault
any_text (any.Script fault) = script_text fault
any_text (any.Desk fault) = desk_text fault
any_text (any.Trace fault) = trace_fault_text fault
any_text (any.Judge fault) = judge_fault_text fault

-- the line of a refusal or of a failure (this project)
unfoldable pub fault_text : Role → AnyFault → List ℕ
fault_text role fault = codes "threadmill: " ++ role_name role ++ codes ": " ++ any_text fault ++ codes "\n"

-- the fault is want of memory, which has another line (this project)
abbrev pub wants_memory : AnyFault → Bool
wants_memory (any.Input fault) = input_wants fault
wants_memory (any.Image (image.Elf elf.NoMemory)) = true
wants_memory (any.Image (image.Elf fault)) = false
wants_memory (any.Image (image.Inputs fault)) = input_wants fault
wants_memory (any.Image (image.Differs offset)) = false
wants_memory (any.Image image.NoMemory) = true
wants_memory (any.Script fault) = script_wants fault
wants_memory (any.Desk desk.Failed) = false
wants_memory (any.Desk (desk.TooLong max)) = false
wants_memory (any.Desk desk.NoMemory) = true
wants_memory (any.Trace fault) = trace_wants fault
wants_memory (any.Judge fault) = judge_wants fault
