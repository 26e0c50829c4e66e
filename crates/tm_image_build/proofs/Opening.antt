-- The file of a test's program is read as the parts that it was written of, so that it is what is built of its own
-- plan.
use Rattle.std.proofs.Common.{◌≡◌, ◌≤◌, ◌<◌, ℕ, zero, suc, ◌+◌, ◌*◌, ◌^◌, List, [], ◌∷◌, length, Ok, refl, sym, ap, ◌∙◌}
use Rattle.std.proofs.Common.{subst, arith, lit<}
use Rattle.std.specs.Prelude.{All, slice_index, slice_index_or}
use Rattle.std.proofs.lemmas.List.Elements.{All-from_recursion}
use Rattle.tm_base.specs.declared.limits.TheConstants.{TEMPLATE_BYTES, TOPOLOGY_BYTES}
use Rattle.tm_plan_map.specs.declared.admitted.Admitted.{Admitted}
use Rattle.tm_place.specs.Ruled.{IsRuled}
use Rattle.tm_plan_cases.specs.declared.program.Program.{Program}
use Rattle.tm_elf_write.specs.declared.parts.Symbol.{Symbol}
use Rattle.tm_elf.specs.Read.{elf_of, InRange}
use Rattle.tm_elf.proofs.BackLemmas.{read_back}
use Rattle.tm_image_inputs.specs.Inputs.{inputs}
use Rattle.tm_image_program.specs.Program.{program_for}
use Rattle.tm_image_program.proofs.Whole.{for-program, for-typed, for-range}
use Rattle.tm_image_build.specs.Symbols.{symbols_of}
use Rattle.tm_image_build.specs.Built.{parts_of, image_file}
use Rattle.tm_image_build.specs.Opened.{rebuilt, IsOfItsPlan}
use Rattle.tm_image_build.proofs.NameLemmas.{EachSymbol, each-of, writable}
use Rattle.tm_image_build.proofs.BuildLemmas.{built_ok, program_ok}

-- ---- the parts are in the ranges of their types

or_zero : (xs : List ℕ) (k d : ℕ) → k < length xs → slice_index_or xs k d ≡ slice_index xs k
or_zero [] k d l = absurd (omega arith)
or_zero (x ∷ xs) zero d l = refl
or_zero (x ∷ xs) (suc k) d l = or_zero xs k d (omega arith)

-- a symbol's address has 64 bits
abbrev Low : Symbol → Type 0
Low s = s.addr < 2 ^ 64

low-at : (xs : List ℕ) → All (λ a. a < 2 ^ 64) xs → (k : ℕ) → slice_index xs k < 2 ^ 64
low-at [] each k = lit< tt
low-at (x ∷ xs) each zero = each 0 x (omega arith)
low-at (x ∷ xs) each (suc k) = low-at xs (λ j d l. each (suc j) d (omega arith)) k

symbols_low : (a : Admitted) (seed : ℕ) → IsRuled a → EachSymbol Low (symbols_of (program_for a seed))
symbols_low a seed ruled =
    let low = for-range a seed ruled in
    let p = program_for a seed in
    each-of Low p (λ h c l m. (
      low-at p.marks.starts low.starts (h * length p.cases.cases + c),
      (low-at p.marks.ends low.ends (h * length p.cases.cases + c), tt),
    ))
    (λ h l. (low-at p.marks.exits low.exits h, (low-at p.marks.halts low.halts h, tt)))

in_range_parts : (a : Admitted) (topo template : List ℕ) (seed : ℕ) → IsRuled a → seed < 2 ^ 64
    → InRange (parts_of (program_for a seed) topo template seed)
unfolding parts_of
in_range_parts a topo template seed ruled small = record {
  text = λ k d l. subst (λ (w : ℕ). w < 2 ^ 32) (sym (or_zero (program_for a seed).text k d l))
      ((for-typed a seed ruled).text k);
  seed = small;
  symbols = All-from_recursion Low (symbols_of (program_for a seed)) (symbols_low a seed ruled);
}

-- ---- the file is read as its parts

pub reads : (a : Admitted) (topo template : List ℕ) (seed : ℕ) → IsRuled a → seed < 2 ^ 64 → length topo ≤
    TOPOLOGY_BYTES
    → length template ≤ TEMPLATE_BYTES
    → elf_of (image_file (program_for a seed) topo template seed) ≡ Ok
    (parts_of (program_for a seed) topo template seed)
unfolding image_file
reads a topo template seed ruled small short few =
    let p = program_for a seed in
    let parts = parts_of p topo template seed in
    read_back parts (writable p topo template seed parts refl (for-program a seed ruled) short few)
    (in_range_parts a topo template seed ruled small)

-- so a test's program and its file are those of the file's own plan
pub of_its_plan : (topo template : List ℕ) (seed : ℕ) (a : Admitted) (p : Program) (file : List ℕ) → IsRuled a
    → seed < 2 ^ 64 → length topo ≤ TOPOLOGY_BYTES → length template ≤ TEMPLATE_BYTES
    → inputs topo template ≡ Ok a → p ≡ program_for a seed → file ≡ image_file p topo template seed
    → IsOfItsPlan p seed file
unfolding parts_of rebuilt
of_its_plan topo template seed a p file ruled small short few read is written = record {
  parts = parts_of p topo template seed;
  form = ap elf_of written ∙ subst (λ (q : Program). elf_of (image_file q topo template seed)
      ≡ Ok (parts_of q topo template seed)) (sym is) (reads a topo template seed ruled small short few);
  again = built_ok topo template seed a p file read is written;
  its_seed = refl;
  its_program = program_ok topo template seed a p read is;
}
