-- The two texts of a sample are accepted, whatever its number.
use Rattle.std.proofs.Common.{◌≡◌, ◌∙◌, ◌<◌, ℕ, zero, suc, ◌+◌, ◌*◌, ◌%◌, ◌^◌, List, Option, None, Result, Ok, refl}
use Rattle.std.proofs.Common.{ap, subst, arith, true}
use Rattle.std.specs.Prelude.{nat_le}
use Rattle.std.proofs.lemmas.Bool.Decides.{nat_tests}
use Rattle.tm_topo.specs.declared.system.Topology.{Topology}
use Rattle.tm_topo.specs.declared.system.TopoFault.{TopoFault}
use Rattle.tm_topo.specs.declared.system.TopoKey.TheVariants.{Cores, Line, Bias}
use Rattle.tm_topo.specs.Reading.{topology_of, allows}
use Rattle.tm_tmpl_types.specs.declared.template.Template.{Template}
use Rattle.tm_tmpl_types.specs.declared.template.TmplFault.{TmplFault}
use Rattle.tm_tmpl_read.specs.Grammar.{template_of}
use Rattle.tm_refusals.specs.declared.rule.RuleAt.{RuleAt}
use Rattle.tm_rules_first.specs.Rules.{broken_rule}
use Rattle.tm_rules.specs.Admitting.{admitted_of}
use Rattle.tm_image_inputs.specs.Inputs.{inputs, template_inputs, behind_topology, of_reading, unless_broken}
use Rattle.tm_sample.specs.Texts.{sample_line, sample_topology, sample_template, AreAccepted, IsSampleForm}
use Rattle.tm_sample.specs.Texts.{AskForASample}
use Rattle.tm_plan_map.specs.declared.admitted.Admitted.{Admitted}
use Rattle.tm_refusals.specs.declared.inputs.InputFault.{InputFault}
use Rattle.tm_sample.proofs.Topology as system
use Rattle.tm_sample.proofs.Template as test
use Rattle.tm_sample.proofs.Ruled.{ruled}

-- two texts that are read, and break no rule
asked_by : (topo template : List ℕ) (s : Topology) (t : Template) → topology_of topo ≡ Ok s
    → template_of template ≡ Ok t → broken_rule s t ≡ None → inputs topo template ≡ Ok (admitted_of s t)
unfolding inputs template_inputs
asked_by topo template s t system_is test_is rules =
    ap (λ (r : Result Topology TopoFault). behind_topology r template) system_is
    ∙ ap (λ (r : Result Template TmplFault). of_reading s r) test_is
    ∙ ap (λ (r : Option RuleAt). unless_broken s t r) rules

cores_allowed : (half : ℕ) → half < 2 → allows Cores (1 + half) ≡ true
cores_allowed zero h = refl
cores_allowed (suc zero) h = refl
cores_allowed (suc (suc half)) h = absurd (omega (arith, h))

harts_few : (half : ℕ) → half < 2 → nat_le ((1 + half) * 2) 8 ≡ true
harts_few half h = grind (arith, nat_tests)

line_allowed : (turn : ℕ) → turn < 3 → allows Line (sample_line turn) ≡ true
line_allowed zero h = refl
line_allowed (suc zero) h = refl
line_allowed (suc (suc zero)) h = refl
line_allowed (suc (suc (suc turn))) h = absurd (omega (arith, h))

bias_allowed : (bias : ℕ) → bias < 101 → allows Bias bias ≡ true
bias_allowed bias h = grind (arith, nat_tests)

line_low : (turn : ℕ) → turn < 3 → sample_line turn < 2 ^ 63
line_low zero h = omega arith
line_low (suc zero) h = omega arith
line_low (suc (suc zero)) h = omega arith
line_low (suc (suc (suc turn))) h = absurd (omega (arith, h))

-- the test that the texts ask for
abbrev asked : (half turn bias : ℕ) → Admitted
asked half turn bias = admitted_of (system.topology (1 + half) (sample_line turn) bias) (test.template (2 + turn))

asked_at : (half turn bias : ℕ) → half < 2 → turn < 3 → bias < 101
    → inputs (system.text_of (1 + half) (sample_line turn) bias) (test.text_of (2 + turn)) ≡ Ok (asked half turn bias)
asked_at half turn bias few low small =
    let cores = 1 + half in
    let line = sample_line turn in
    asked_by (system.text_of cores line bias) (test.text_of (2 + turn)) (system.topology cores line bias)
    (test.template (2 + turn))
    (system.topology_read cores line bias (omega arith) (line_low turn low) (omega arith) (cores_allowed half few)
    (line_allowed turn low) (bias_allowed bias small) (harts_few half few))
    (test.template_read turn low) (ruled half turn bias few low)

-- the texts of each number
pub accepted : (n : ℕ) → AreAccepted (sample_topology n) (sample_template n)
unfolding sample_topology sample_template
accepted n =
    (asked (n % 2) (n % 3) (n % 101), asked_at (n % 2) (n % 3) (n % 101) (omega arith) (omega arith) (omega arith))

-- ---- what they ask for

form : (half turn bias : ℕ) → half < 2 → turn < 3 → IsSampleForm (asked half turn bias)
unfolding admitted_of
form half turn bias few low = record {
  harts = omega (arith, few);
  passes = omega (arith, low);
  cases = refl;
  lines = refl;
}

same_test : (r : Result Admitted InputFault) (a b : Admitted) → r ≡ Ok a → r ≡ Ok b → a ≡ b
same_test r a b e f = cc

pub asks : (n : ℕ) → AskForASample (sample_topology n) (sample_template n)
unfolding sample_topology sample_template
asks n = λ a e.
    let is = asked_at (n % 2) (n % 3) (n % 101) (omega arith) (omega arith) (omega arith) in
    subst IsSampleForm (same_test _ (asked (n % 2) (n % 3) (n % 101)) a is e)
    (form (n % 2) (n % 3) (n % 101) (omega arith) (omega arith))
