-- The program of a test and a seed: what its types give, and that it is sound.
use Rattle.std.proofs.Common.{◌≡◌, ◌<◌, ◌^◌, ℕ, List, Some, slice_get, slice_index, refl, sym, subst}
use Rattle.tm_plan_map.specs.Map.{text_base}
use Rattle.tm_plan_cases.specs.Tables.{table_bytes}
use Rattle.tm_plan_cases.specs.declared.masks.Masks.{Masks}
use Rattle.tm_plan_cases.specs.declared.program.Marks.{Marks}
use Rattle.tm_pass_text.specs.Words.{text_words}
use Rattle.tm_plan_map.specs.declared.admitted.Admitted.{Admitted}
use Rattle.tm_plan_cases.specs.declared.cases.Cases.{Cases}
use Rattle.tm_plan_cases.specs.declared.cases.Case.{Case}
use Rattle.tm_plan_cases.specs.declared.cases.Stream.{Stream}
use Rattle.tm_plan_cases.specs.declared.program.Program.{Program}
use Rattle.tm_plan_cases.specs.Layout.{HaveRegisters}
use Rattle.tm_plan_cases.specs.Shaped.{IsTyped, IsProgram}
use Rattle.tm_place.specs.Ruled.{IsRuled}
use Rattle.tm_world.specs.Checked.{AreChecked}
use Rattle.tm_world.specs.Sound.{Sound}
use Rattle.tm_gen.specs.Gen.{gen_of}
use Rattle.tm_gen.proofs.ShapedLemmas.{gen-shaped}
use Rattle.tm_race.specs.Exact.{masks_of}
use Rattle.tm_pass_text.specs.Hart.{IsBuilt, blocks_of}
use Rattle.tm_pass_place.specs.Built.{built, marks_in}
use Rattle.tm_pass_place.specs.Range.{HaveWords, IsInRange}
use Rattle.tm_pass_place.proofs.Built.{cases-built}
use Rattle.tm_pass_place.proofs.Range.{built-in_range}
use Rattle.tm_pass_place.proofs.Sound.{built-sound}
use Rattle.tm_image_program.specs.Program.{program_for}
use Rattle.tm_image_program.proofs.Drawn.{IsDrawn, gen-drawn, gen-first}
use Rattle.tm_image_program.proofs.Bytes.{tables-bytes}
use Rattle.tm_image_program.proofs.Masks.{mask-words, masks-fit}

gen-registers : (a : Admitted) (seed : ℕ) → IsRuled a → HaveRegisters (gen_of a seed)
gen-registers a seed ruled c h case s at_case at_stream = (gen-drawn a seed ruled c h case s at_case at_stream).count

-- It is a program, and a built one.
pub for-built : (a : Admitted) (seed : ℕ) → IsRuled a → IsProgram (program_for a seed) × IsBuilt (program_for a seed)
unfolding program_for
for-built a seed ruled =
    cases-built (gen_of a seed) (masks_of (gen_of a seed)) (gen-shaped a seed ruled) (masks-fit (gen_of a seed))
    (gen-registers a seed ruled)

pub for-program : (a : Admitted) (seed : ℕ) → IsRuled a → IsProgram (program_for a seed)
for-program a seed ruled = (for-built a seed ruled).0

-- the parts that are made are those of the program
pub program-is : (a : Admitted) (seed : ℕ) (cases : Cases) (masks : Masks) (marks : Marks) (text tables : List ℕ)
    → cases ≡ gen_of a seed
    → masks ≡ masks_of cases → tables ≡ table_bytes cases masks
    → text ≡ text_words (blocks_of cases) cases 0 cases.harts text_base
    → marks ≡ marks_in cases
    → record { cases = cases; masks = masks; marks = marks; text = text; tables = tables } ≡ program_for a seed
unfolding program_for built
program-is a seed cases masks marks text tables drawn checked tabled worded marked =
    rw (marked, worded, tabled, checked, drawn) refl

for-cases : (a : Admitted) (seed : ℕ) → (program_for a seed).cases ≡ gen_of a seed
unfolding program_for built
for-cases a seed = refl

for-masks : (a : Admitted) (seed : ℕ) → (program_for a seed).masks ≡ masks_of (gen_of a seed)
unfolding program_for built
for-masks a seed = refl

for-tables : (a : Admitted) (seed : ℕ) → (program_for a seed).tables
    ≡ table_bytes (gen_of a seed) (masks_of (gen_of a seed))
unfolding program_for built
for-tables a seed = refl

tables-are : (a : Admitted) (seed : ℕ) → (program_for a seed).tables
    ≡ table_bytes (program_for a seed).cases (program_for a seed).masks
unfolding program_for built
tables-are a seed = refl

checked-are : (a : Admitted) (seed : ℕ) → AreChecked (gen_of a seed) (masks_of (gen_of a seed))
    → AreChecked (program_for a seed).cases (program_for a seed).masks
unfolding program_for built
checked-are a seed h = h

typed-of : (a : Admitted) (seed : ℕ) → IsRuled a → (p : Program) → p.cases ≡ gen_of a seed
    → p.masks ≡ masks_of (gen_of a seed)
    → p.tables ≡ table_bytes (gen_of a seed) (masks_of (gen_of a seed)) → ((k : ℕ) → slice_index p.text k < 2 ^ 32)
    → IsTyped p
typed-of a seed ruled p cases masks tables text = record {
  text = text;
  tables = λ k. subst (λ (bytes : List ℕ). slice_index bytes k < 256) (sym tables)
      (tables-bytes (gen_of a seed) (masks_of (gen_of a seed)) (masks-fit (gen_of a seed)) k);
  words = λ c h case s at_case at_stream. (drawn c h case s at_case at_stream).words;
  count = λ c h case s at_case at_stream. (drawn c h case s at_case at_stream).count;
  regs = λ c h case s at_case at_stream. (drawn c h case s at_case at_stream).regs;
  first = λ c case at_case. gen-first a seed c case
      (subst (λ (x : Cases). slice_get x.cases c ≡ Some case) cases at_case);
  masks = λ c m at. mask-words (gen_of a seed) c m (subst (λ (x : Masks). slice_get x.cases c ≡ Some m) masks at);
}
  where
    drawn : (c h : ℕ) (case : Case) (s : Stream) → slice_get p.cases.cases c ≡ Some case → slice_get case.streams h
        ≡ Some s → IsDrawn s
    drawn c h case s at_case at_stream =
        gen-drawn a seed ruled c h case s (subst (λ (x : Cases). slice_get x.cases c ≡ Some case) cases at_case)
        at_stream

gen-words : (a : Admitted) (seed : ℕ) → IsRuled a → HaveWords (gen_of a seed)
gen-words a seed ruled c h case s at_case at_stream = (gen-drawn a seed ruled c h case s at_case at_stream).words

-- its words and its marks have their bits
pub for-range : (a : Admitted) (seed : ℕ) → IsRuled a → IsInRange (program_for a seed)
unfolding program_for
for-range a seed ruled = built-in_range (gen_of a seed) (masks_of (gen_of a seed)) (gen-shaped a seed ruled)
    (gen-words a seed ruled)

-- so what the types give holds of it
pub for-typed : (a : Admitted) (seed : ℕ) → IsRuled a → IsTyped (program_for a seed)
for-typed a seed ruled = typed-of a seed ruled (program_for a seed) (for-cases a seed) (for-masks a seed)
    (for-tables a seed) (for-range a seed ruled).text

-- and where its masks are the checked sets, it is sound
pub for-sound : (a : Admitted) (seed : ℕ) → IsRuled a → AreChecked (gen_of a seed) (masks_of (gen_of a seed))
    → Sound (program_for a seed)
for-sound a seed ruled checked =
    built-sound (program_for a seed) (for-program a seed ruled) (for-typed a seed ruled) (for-built a seed ruled).1
    (tables-are a seed) (checked-are a seed checked)
