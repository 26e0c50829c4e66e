-- The first broken rule of a template, from those of its parts.
use Rattle.std.proofs.Common.{◌≡◌, ◌==◌, true, false, not, List, [], ◌∷◌, ◌++◌, length, Some, None, refl, sym, ◌∙◌}
use Rattle.std.proofs.lemmas.Bool.{eq-eqb, ne_eqb, not-true, true≢false}
use Rattle.tm_refusals.specs.declared.rule.RuleFault.TheVariants.{Cases, Passes}
use Rattle.tm_tmpl_types.specs.declared.template.Template.{Template}
use Rattle.tm_topo.specs.declared.system.Topology.{Topology}
use Rattle.tm_refusals.specs.declared.rule.RuleAt.{RuleAt}
use Rattle.tm_rules_first.specs.Windows.{windows_of}
use Rattle.tm_rules_first.specs.Rules.{Check, unless, first_of, in_turn, are_passes, window_checks, case_checks}
use Rattle.tm_rules_first.specs.Rules.{checks_of, broken_rule}
use Rattle.tm_rules_slot.proofs.Checking.{first-none}
use Rattle.tm_rules_first.proofs.SoundLemmas.{unless-true}
use Rattle.tm_rules_first.proofs.FirstLemmas.{at_place, first-passes, first-stops, first-both, put-passes, put-stops}
use Rattle.tm_rules_first.proofs.FirstLemmas.{put-none}
use Rattle.tm_place.specs.Placing.{shape_of}

-- the checks of a template's windows, of its cases, and of its end
abbrev pub in_windows : Topology → Template → List Check
in_windows topo t = in_turn (window_checks topo) [] t.windows

abbrev pub in_cases : Topology → Template → List Check
in_cases topo t = in_turn (case_checks topo (shape_of (windows_of t.windows)) (length t.cases)) [] t.cases

abbrev at_end : Template → List Check
at_end t = (t.end, unless (not (length t.cases == 0)) (Cases 0)) ∷ []

pub passes-stop : (topo : Topology) (t : Template) → are_passes t.passes ≡ false
    → broken_rule topo t ≡ Some (at_place t.passes_at (Passes t.passes))
unfolding broken_rule checks_of first_of
passes-stop topo t wrong = rw wrong refl

-- what comes behind the passes
behind-passes : (topo : Topology) (t : Template) → are_passes t.passes ≡ true
    → broken_rule topo t ≡ first_of (in_windows topo t ++ (in_cases topo t ++ at_end t))
unfolding broken_rule checks_of first_of
behind-passes topo t right = rw right refl

pub windows-stop : (topo : Topology) (t : Template) (r : RuleAt) → are_passes t.passes ≡ true
    → first_of (in_windows topo t) ≡ Some r → broken_rule topo t ≡ Some r
windows-stop topo t r right some = behind-passes topo t right ∙ first-stops (in_windows topo t) (in_cases topo t
    ++ at_end t) r some

behind-windows : (topo : Topology) (t : Template) → are_passes t.passes ≡ true → first_of (in_windows topo t) ≡ None
    → broken_rule topo t ≡ first_of (in_cases topo t ++ at_end t)
behind-windows topo t right none = behind-passes topo t right ∙ first-passes (in_windows topo t) (in_cases topo t
    ++ at_end t) none

pub cases-stop : (topo : Topology) (t : Template) (r : RuleAt) → are_passes t.passes ≡ true
    → first_of (in_windows topo t) ≡ None → first_of (in_cases topo t) ≡ Some r
    → broken_rule topo t ≡ Some r
cases-stop topo t r right none some = behind-windows topo t right none ∙ first-stops (in_cases topo t) (at_end t) r some

behind-cases : (topo : Topology) (t : Template) → are_passes t.passes ≡ true → first_of (in_windows topo t) ≡ None
    → first_of (in_cases topo t) ≡ None
    → broken_rule topo t ≡ first_of (at_end t)
behind-cases topo t right none silent = behind-windows topo t right none ∙ first-passes (in_cases topo t) (at_end t)
    silent

pub end-stops : (topo : Topology) (t : Template) → are_passes t.passes ≡ true → first_of (in_windows topo t) ≡ None
    → first_of (in_cases topo t) ≡ None
    → length t.cases ≡ 0 → broken_rule topo t ≡ Some (at_place t.end (Cases 0))
end-stops topo t right none silent empty = behind-cases topo t right none silent ∙ rw (eq-eqb _ _ empty)
    (put-stops t.end (Some (Cases 0) ∷ []) (Cases 0) refl)

pub nothing-stops : (topo : Topology) (t : Template) → are_passes t.passes ≡ true → first_of (in_windows topo t) ≡ None
    → first_of (in_cases topo t) ≡ None
    → (length t.cases ≡ 0 → ⊥) → broken_rule topo t ≡ None
nothing-stops topo t right none silent some = behind-cases topo t right none silent ∙ rw (ne_eqb _ _ some)
    (put-passes t.end (None ∷ []) refl)

-- a template that breaks no rule: its passes, its windows, its cases, and that there is one
pub parts-none : (topo : Topology) (t : Template) → broken_rule topo t ≡ None
    → (are_passes t.passes ≡ true) × (first_of (in_windows topo t) ≡ None) × (first_of (in_cases topo t) ≡ None)
    × (length t.cases ≡ 0 → ⊥)
unfolding broken_rule checks_of
parts-none topo t none =
    let a = first-both ((t.passes_at, unless (are_passes t.passes) (Passes t.passes)) ∷ []) (in_windows topo t
    ++ (in_cases topo t ++ at_end t)) none in
    let b = first-both (in_windows topo t) (in_cases topo t ++ at_end t) a.1 in
    let c = first-both (in_cases topo t) (at_end t) b.1 in
    let some = not-true _
    (unless-true _ _ (first-none _ [] (put-none t.end (unless (not (length t.cases == 0)) (Cases 0) ∷ []) c.1)).0)
    in (
      unless-true _ _ (first-none _ [] (put-none t.passes_at (unless (are_passes t.passes) (Passes t.passes) ∷ [])
          a.0)).0,
      b.0,
      c.0,
      λ empty. true≢false (sym (eq-eqb _ _ empty) ∙ some),
    )
