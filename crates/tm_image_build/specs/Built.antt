-- The file that is built of two texts and a seed, or their first fault (this project's own).
use Rattle.std.specs.Prelude.{ℕ, List, Result, Ok, Err}
use Rattle.tm_elf_write.specs.declared.parts.Parts.{Parts}
use Rattle.tm_elf_write.specs.Elf.{elf_file}
use Rattle.tm_plan_map.specs.declared.admitted.Admitted.{Admitted}
use Rattle.tm_plan_cases.specs.declared.program.Program.{Program}
use Rattle.tm_refusals.specs.declared.inputs.InputFault.{InputFault}
use Rattle.tm_image_inputs.specs.Inputs.{inputs}
use Rattle.tm_image_program.specs.Program.{program_for}
use Rattle.tm_image_build.specs.Symbols.{symbols_of}

-- what the file of a program holds, with the plan that it was built of
unfoldable pub parts_of : Program → (topo template : List ℕ) → ℕ → Parts
parts_of p topo template seed = record {
  text = p.text;
  tables = p.tables;
  plan = record { seed = seed; topo = topo; template = template };
  symbols = symbols_of p;
}

-- the file of a program
unfoldable pub image_file : Program → (topo template : List ℕ) → ℕ → List ℕ
image_file p topo template seed = elf_file (parts_of p topo template seed)

-- the file of the test that the two texts ask for, or their fault
abbrev pub built_of : (topo template : List ℕ) → ℕ → Result Admitted InputFault → Result (List ℕ) InputFault
built_of topo template seed (Ok a) = Ok (image_file (program_for a seed) topo template seed)
built_of topo template seed (Err fault) = Err fault

-- the file that is built of two texts and a seed, or the first fault of the texts
unfoldable pub built : (topo template : List ℕ) → ℕ → Result (List ℕ) InputFault
built topo template seed = built_of topo template seed (inputs topo template)

-- the program of the test that the two texts ask for and a seed, or their fault
abbrev pub program_from : ℕ → Result Admitted InputFault → Result Program InputFault
program_from seed (Ok a) = Ok (program_for a seed)
program_from seed (Err fault) = Err fault
