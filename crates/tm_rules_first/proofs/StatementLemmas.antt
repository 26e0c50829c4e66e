-- The checks of one statement, from the fault that its rules give.
use Rattle.std.proofs.Common.{◌≡◌, ◌+◌, ◌<◌, ℕ, List, [], ◌∷◌, Option, Some, None, length, get_or, take, refl, sym}
use Rattle.tm_refusals.specs.declared.rule.RuleFault.{RuleFault}
use Rattle.tm_rules_slot.specs.Slots.{first}
use Rattle.tm_plan_map.specs.declared.windows.Window.{Window}
use Rattle.tm_tmpl_types.specs.declared.template.WindowDecl.{WindowDecl}
use Rattle.tm_tmpl_types.specs.declared.template.SlotDecl.{SlotDecl}
use Rattle.tm_tmpl_types.specs.declared.template.BodyDecl.{BodyDecl}
use Rattle.tm_tmpl_types.specs.declared.template.CaseDecl.{CaseDecl}
use Rattle.tm_tmpl_types.specs.declared.template.Selector.{Selector}
use Rattle.tm_topo.specs.declared.system.Topology.{Topology}
use Rattle.tm_rules_first.specs.Rules.{first_of, in_turn, window_rules, window_checks, total_slots, slot_count}
use Rattle.tm_rules_first.specs.Rules.{slot_fault, slot_checks, body_rules, body_checks, case_rules, case_checks}
use Rattle.tm_rules_first.proofs.TurnLemmas.{rest_of, rest-more, rest-broken}
use Rattle.tm_rules_first.proofs.FirstLemmas.{at_place, first-passes, first-stops, put-passes, put-stops}

-- ---- windows

pub windows-more : (topo : Topology) (ws : List WindowDecl) (k : ℕ) (d : WindowDecl) → k < length ws
    → None ≡ first (window_rules topo (take k ws) (get_or ws k d)) → rest_of (window_checks topo) ws k
    ≡ rest_of (window_checks topo) ws (k + 1)
unfolding window_checks
windows-more topo ws k d within none = rest-more (window_checks topo) ws k d _ within refl
    (put-passes _ (window_rules topo (take k ws) (get_or ws k d)) (sym none))

pub windows-broken : (topo : Topology) (ws : List WindowDecl) (k : ℕ) (d : WindowDecl) (f : RuleFault) → k < length ws
    → Some f ≡ first (window_rules topo (take k ws) (get_or ws k d)) → rest_of (window_checks topo) ws k
    ≡ Some (at_place (get_or ws k d).at f)
unfolding window_checks
windows-broken topo ws k d f within some = rest-broken (window_checks topo) ws k d _ within refl _
    (put-stops _ (window_rules topo (take k ws) (get_or ws k d)) f (sym some))

-- ---- slots

pub slots-more : (topo : Topology) (shape : List (Option Window)) (whom : Selector) (len n : ℕ) (ds : List SlotDecl)
    (k : ℕ) (d : SlotDecl) → k < length ds → d ≡ get_or ds k d
    → n ≡ total_slots (take k ds) → None ≡ slot_fault topo shape whom len n d.what
    → rest_of (slot_checks topo shape whom len) ds k ≡ rest_of (slot_checks topo shape whom len) ds (k + 1)
unfolding slot_checks
slots-more topo shape whom len n ds k d within is count none =
    rest-more (slot_checks topo shape whom len) ds k d d within is
    (rw (← count, ← none) (put-passes d.at (None ∷ []) refl))

pub slots-broken : (topo : Topology) (shape : List (Option Window)) (whom : Selector) (len n : ℕ) (ds : List SlotDecl)
    (k : ℕ) (d : SlotDecl) (f : RuleFault) → k < length ds → d ≡ get_or ds k d
    → n ≡ total_slots (take k ds) → Some f ≡ slot_fault topo shape whom len n d.what
    → rest_of (slot_checks topo shape whom len) ds k ≡ Some (at_place d.at f)
unfolding slot_checks
slots-broken topo shape whom len n ds k d f within is count some =
    rest-broken (slot_checks topo shape whom len) ds k d d within is _
    (rw (← count, ← some) (put-stops d.at (Some f ∷ []) f refl))

-- ---- bodies and cases

pub body-stops : (topo : Topology) (shape : List (Option Window)) (before : List BodyDecl) (b : BodyDecl)
    (f : RuleFault)
    → first (body_rules topo before b.whom (slot_count b.slots)) ≡ Some f → first_of (body_checks topo shape before b)
    ≡ Some (at_place b.at f)
unfolding body_checks
body-stops topo shape before b f some =
    first-stops _ (in_turn (slot_checks topo shape b.whom (slot_count b.slots)) [] b.slots) _
    (put-stops b.at (body_rules topo before b.whom (slot_count b.slots)) f some)

pub body-goes : (topo : Topology) (shape : List (Option Window)) (before : List BodyDecl) (b : BodyDecl)
    → first (body_rules topo before b.whom (slot_count b.slots)) ≡ None
    → first_of (body_checks topo shape before b)
    ≡ first_of (in_turn (slot_checks topo shape b.whom (slot_count b.slots)) [] b.slots)
unfolding body_checks
body-goes topo shape before b none =
    first-passes _ _ (put-passes b.at (body_rules topo before b.whom (slot_count b.slots)) none)

pub case-stops : (topo : Topology) (shape : List (Option Window)) (count : ℕ) (before : List CaseDecl) (c : CaseDecl)
    (f : RuleFault)
    → first (case_rules count before c.name) ≡ Some f → first_of (case_checks topo shape count before c)
    ≡ Some (at_place c.at f)
unfolding case_checks
case-stops topo shape count before c f some = first-stops _ (in_turn (body_checks topo shape) [] c.bodies) _
    (put-stops c.at (case_rules count before c.name) f some)

pub case-goes : (topo : Topology) (shape : List (Option Window)) (count : ℕ) (before : List CaseDecl) (c : CaseDecl)
    → first (case_rules count before c.name) ≡ None
    → first_of (case_checks topo shape count before c) ≡ first_of (in_turn (body_checks topo shape) [] c.bodies)
unfolding case_checks
case-goes topo shape count before c none = first-passes _ _ (put-passes c.at (case_rules count before c.name) none)
