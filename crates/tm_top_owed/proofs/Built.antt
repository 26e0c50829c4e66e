-- What is built of two texts: it has the cases that are drawn for their test; and nothing is, where they are refused.
use Rattle.std.proofs.Common.{◌≡◌, ℕ, List, Result, Ok, Err, sym, ap}
use Rattle.tm_plan_map.specs.declared.admitted.Admitted.{Admitted}
use Rattle.tm_plan_cases.specs.declared.program.Program.{Program}
use Rattle.tm_gen.specs.Gen.{gen_of}
use Rattle.tm_world.specs.Sound.{Sound}
use Rattle.tm_refusals.specs.declared.inputs.InputFault.{InputFault}
use Rattle.tm_image_inputs.specs.Inputs.{inputs}
use Rattle.tm_pass_place.specs.Built.{built as built_program}
use Rattle.tm_image_program.specs.Program.{program_for}
use Rattle.tm_image_build.specs.Built.{built, built_of, image_file, program_from}
use Rattle.tm_top_owed.specs.Owed.{IsBuiltOf}

its_program : (seed : ℕ) (r : Result Admitted InputFault) (p : Program) → program_from seed r ≡ Ok p → (a : Admitted)
    → r ≡ Ok a → program_for a seed ≡ p
its_program seed (Ok b) p is a e =
    let same : b ≡ a = cc in
    let its : program_for b seed ≡ p = cc in
    rw (← same) its
its_program seed (Err f) p is a e = absurd (cc)

cases_from : (seed : ℕ) (r : Result Admitted InputFault) (p : Program) → program_from seed r ≡ Ok p → (a : Admitted)
    → r ≡ Ok a → p.cases ≡ gen_of a seed
unfolding program_for built_program
cases_from seed r p is a e = ap (λ (q : Program). q.cases) (sym (its_program seed r p is a e))

-- the program and the file that a build gives are those of its texts
pub built_of_texts : (topo template : List ℕ) (seed : ℕ) (p : Program) (file : List ℕ)
    → program_from seed (inputs topo template) ≡ Ok p
    → built topo template seed ≡ Ok file → file ≡ image_file p topo template seed → Sound p
    → IsBuiltOf topo template seed p file
built_of_texts topo template seed p file program is_built written sound = record {
  its_program = program;
  its_cases = λ a e. cases_from seed (inputs topo template) p program a e;
  its_file = is_built;
  of_program = written;
  is_sound = sound;
}

refused_at : (r : Result Admitted InputFault) (topo template : List ℕ) (seed : ℕ) (refusal : InputFault)
    → built_of topo template seed r ≡ Err refusal → r ≡ Err refusal
refused_at (Ok test) topo template seed refusal h = cc
refused_at (Err fault) topo template seed refusal h = cc

-- the fault of two texts of which no image is built
pub image_refused : (topo template : List ℕ) (seed : ℕ) (refusal : InputFault) → built topo template seed ≡ Err refusal
    → inputs topo template ≡ Err refusal
unfolding built
image_refused topo template seed refusal h = refused_at (inputs topo template) topo template seed refusal h
