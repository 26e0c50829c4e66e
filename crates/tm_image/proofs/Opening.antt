-- A built file is read as the parts that it was written of, and so built again.
use Rattle.std.proofs.Common.{◌≡◌, ◌≤◌, ◌<◌, ℕ, ◌^◌, List, length, Option, Some, None, Result, Ok, Err, refl, ap, ◌∙◌}
use Rattle.std.proofs.Common.{subst}
use Rattle.tm_base.specs.declared.limits.TheConstants.{TOPOLOGY_BYTES, TEMPLATE_BYTES}
use Rattle.tm_topo.specs.declared.system.Topology.{Topology}
use Rattle.tm_topo.specs.declared.system.TopoFault.{TopoFault}
use Rattle.tm_topo.specs.Reading.{topology_of, document}
use Rattle.tm_topo.specs.Limits.{IsInRange}
use Rattle.tm_topo.proofs.RangeLemmas.{range_of}
use Rattle.tm_tmpl_types.specs.declared.template.Template.{Template}
use Rattle.tm_tmpl_types.specs.declared.template.TmplFault.{TmplFault}
use Rattle.tm_tmpl_read.specs.Grammar.{template_of}
use Rattle.tm_plan_map.specs.declared.admitted.Admitted.{Admitted}
use Rattle.tm_place.specs.Ruled.{IsRuled}
use Rattle.tm_elf_write.specs.declared.parts.Parts.{Parts}
use Rattle.tm_elf_write.specs.declared.parts.Plan.{Plan}
use Rattle.tm_elf_write.specs.Elf.{elf_file}
use Rattle.tm_elf_head.specs.Differences.{first_difference}
use Rattle.tm_elf_head.proofs.DifferenceLemmas.{no_difference}
use Rattle.tm_elf.specs.Read.{elf_of}
use Rattle.tm_refusals.specs.declared.rule.RuleAt.{RuleAt}
use Rattle.tm_rules_first.specs.Rules.{broken_rule}
use Rattle.tm_rules.specs.Admitting.{admitted_of}
use Rattle.tm_rules.proofs.RuledLemmas.{admitted-ruled}
use Rattle.tm_refusals.specs.declared.inputs.InputFault.{InputFault}
use Rattle.tm_image_inputs.specs.Inputs.{inputs, behind_topology, template_inputs, of_reading, unless_broken}
use Rattle.tm_image_program.specs.Program.{program_for}
use Rattle.tm_image_build.specs.Built.{parts_of, image_file, built, built_of}
use Rattle.tm_image_build.specs.Opened.{opened, opened_from, rebuilt, compared, unless_differs}
use Rattle.tm_image_build.proofs.Opening.{reads}
use Rattle.tm_image.specs.Laws.{IsOpenedAgain}

-- ---- what two texts that aren't refused ask for is a ruled test

broken_none : (topo : Topology) (t : Template) (a : Admitted) (r : Option RuleAt) → broken_rule topo t ≡ r
    → IsInRange topo → unless_broken topo t r ≡ Ok a → IsRuled a
broken_none topo t a (Some r) is range h = absurd (cc)
broken_none topo t a None is range h =
    let same : admitted_of topo t ≡ a = cc in
    subst IsRuled same (admitted-ruled topo t range is)

read_ruled : (topo : Topology) (r : Result Template TmplFault) (a : Admitted) → IsInRange topo
    → of_reading topo r ≡ Ok a → IsRuled a
read_ruled topo (Ok t) a range h = broken_none topo t a (broken_rule topo t) refl range h
read_ruled topo (Err e) a range h = absurd (cc)

behind_ruled : (r : Result Topology TopoFault) (template : List ℕ) (a : Admitted)
    → ((t : Topology) → r ≡ Ok t → IsInRange t) → behind_topology r template ≡ Ok a → IsRuled a
unfolding template_inputs
behind_ruled (Ok topo) template a range h = read_ruled topo (template_of template) a (range topo refl) h
behind_ruled (Err e) template a range h = absurd (cc)

in_range : (text : List ℕ) (t : Topology) → topology_of text ≡ Ok t → IsInRange t
unfolding topology_of
in_range text t h = range_of (document text) (Ok t) h

tests_ruled : (topo template : List ℕ) (a : Admitted) → inputs topo template ≡ Ok a → IsRuled a
unfolding inputs
tests_ruled topo template a h = behind_ruled (topology_of topo) template a (in_range topo) h

-- ---- the file is read, and built again

same : (bytes : List ℕ) → first_difference bytes bytes ≡ None
same bytes = no_difference 0 bytes

opened_as : (file topo template : List ℕ) (seed : ℕ) (parts : Parts) → elf_of file ≡ Ok parts
    → parts.plan ≡ record { seed = seed; topo = topo; template = template }
    → built topo template seed ≡ Ok file → opened file ≡ Ok file
unfolding opened rebuilt
opened_as file topo template seed parts read plan again =
    let rebuilt_as : rebuilt parts ≡ Ok file = ap (λ (p : Plan). built p.topo p.template p.seed) plan ∙ again in
    ap (opened_from file) read ∙ (ap (compared file) rebuilt_as ∙ ap (unless_differs file) (same file))

built_again : (topo template : List ℕ) (seed : ℕ) (a : Admitted) → inputs topo template ≡ Ok a
    → built topo template seed ≡ Ok (elf_file (parts_of (program_for a seed) topo template seed))
unfolding built image_file
built_again topo template seed a read = rw read refl

reopened : (topo template : List ℕ) (seed : ℕ) (r : Result Admitted InputFault) (file : List ℕ) → inputs topo template
    ≡ r → seed < 2 ^ 64 → length topo ≤ TOPOLOGY_BYTES
    → length template ≤ TEMPLATE_BYTES → built_of topo template seed r ≡ Ok file → opened file ≡ Ok file
unfolding image_file parts_of
reopened topo template seed (Err f) file read small short few h = absurd (cc)
reopened topo template seed (Ok a) file read small short few h =
    let ruled = tests_ruled topo template a read in
    let parts = parts_of (program_for a seed) topo template seed in
    let is : image_file (program_for a seed) topo template seed ≡ file = cc in
    let again : built topo template seed ≡ Ok (elf_file parts) = built_again topo template seed a read in
    subst (λ (f : List ℕ). opened f ≡ Ok f) is (opened_as (elf_file parts) topo template seed parts
    (reads a topo template seed ruled small short few) refl again)

-- the file that is built of two texts is opened as itself
pub opened-again : (topo template : List ℕ) → IsOpenedAgain topo template
unfolding built
opened-again topo template seed file small short few h =
    reopened topo template seed (inputs topo template) file refl small short few h
