-- What `build` gives, over plain values.
use Rattle.std.proofs.Common.{◌≡◌, ℕ, List, Ok, refl}
use Rattle.tm_plan_map.specs.declared.admitted.Admitted.{Admitted}
use Rattle.tm_plan_cases.specs.declared.program.Program.{Program}
use Rattle.tm_refusals.specs.declared.inputs.BuildFault.{BuildFault}
use Rattle.tm_refusals.specs.declared.inputs.BuildFault.TheVariants as fault
use Rattle.tm_image_inputs.specs.Inputs.{inputs, IsFaultOf}
use Rattle.tm_image_program.specs.Program.{program_for}
use Rattle.tm_image_build.specs.Built.{image_file, built, program_from}

pub built_ok : (topo template : List ℕ) (seed : ℕ) (a : Admitted) (p : Program) (file : List ℕ) → inputs topo template
    ≡ Ok a
    → p ≡ program_for a seed → file ≡ image_file p topo template seed → built topo template seed ≡ Ok file
unfolding built
built_ok topo template seed a p file read is written = rw (read, written, is) refl

pub program_ok : (topo template : List ℕ) (seed : ℕ) (a : Admitted) (p : Program) → inputs topo template ≡ Ok a
    → p ≡ program_for a seed
    → program_from seed (inputs topo template) ≡ Ok p
program_ok topo template seed a p read is = rw (read, is) refl

pub built_err : (f : BuildFault) (topo template : List ℕ) (seed : ℕ) → IsFaultOf f (inputs topo template)
    → IsFaultOf f (built topo template seed)
unfolding built
built_err (fault.Input refused) topo template seed h = (h.0, rw h.1 refl)
built_err fault.NoMemory topo template seed h = tt
