-- What a file is opened as.
use Rattle.std.specs.Prelude.{◌≡◌, ℕ, List, Option, Some, None, Result, Ok, Err}
use Rattle.tm_elf_write.specs.declared.parts.Parts.{Parts}
use Rattle.tm_refusals.specs.declared.elf.ElfFault.{ElfFault}
use Rattle.tm_elf_head.specs.Differences.{first_difference}
use Rattle.tm_elf.specs.Read.{elf_of}
use Rattle.tm_plan_cases.specs.declared.program.Program.{Program}
use Rattle.tm_image_inputs.specs.Inputs.{inputs}
use Rattle.tm_image_build.specs.Built.{built, program_from}
use Rattle.tm_refusals.specs.declared.inputs.InputFault.{InputFault}
use Rattle.tm_refusals.specs.declared.image.ImageFault.{ImageFault}
use Rattle.tm_refusals.specs.declared.image.ImageFault.TheVariants.{Elf, Inputs, Differs}

-- a file, or the place at which another one differs from it
abbrev pub unless_differs : List ℕ → Option ℕ → Result (List ℕ) ImageFault
unless_differs file None = Ok file
unless_differs file (Some at) = Err (Differs at)

-- the file that is built again, if it is these bytes
abbrev pub compared : (bytes : List ℕ) → Result (List ℕ) InputFault → Result (List ℕ) ImageFault
compared bytes (Ok file) = unless_differs file (first_difference file bytes)
compared bytes (Err fault) = Err (Inputs fault)

-- what is built of the plan of parts
unfoldable pub rebuilt : Parts → Result (List ℕ) InputFault
rebuilt parts = built parts.plan.topo parts.plan.template parts.plan.seed

-- the file of the plan that was read, if it is these bytes
abbrev pub opened_from : (bytes : List ℕ) → Result Parts ElfFault → Result (List ℕ) ImageFault
opened_from bytes (Ok parts) = compared bytes (rebuilt parts)
opened_from bytes (Err fault) = Err (Elf fault)

-- the file that a file is opened as, itself, or the first fault: of its form, of the two texts of its plan, or a byte
-- that the plan doesn't give
unfoldable pub opened : List ℕ → Result (List ℕ) ImageFault
opened bytes = opened_from bytes (elf_of bytes)

-- A program, a seed and a file are those of an image: the file is read as parts, and is what is built again of the plan
-- of these parts; the seed is the plan's; and the program is that of the test which the plan's texts ask for.
pub record IsOfItsPlan (p : Program) (seed : ℕ) (file : List ℕ) : Type 0 where
  pub parts : Parts
  pub form : elf_of file ≡ Ok parts
  pub again : rebuilt parts ≡ Ok file
  pub its_seed : seed ≡ parts.plan.seed
  pub its_program : program_from parts.plan.seed (inputs parts.plan.topo parts.plan.template) ≡ Ok p
