-- Which rule a template breaks, and where: all rules of its statements as one list of checks in text order, and the
-- first of them that is broken. This project's own.
use Rattle.std.specs.Prelude.{ℕ, ◌≡◌, ◌≢◌, ◌<◌, ◌+◌, ◌-◌, ◌*◌, ◌^◌, ◌==◌, min, Bool, true, not, ◌&&◌, nat_le, nat_lt}
use Rattle.std.specs.Prelude.{if◌then◌else◌, List, [], ◌∷◌, ◌++◌, length, slice_get, find, Option, Some, None}
use Rattle.std.specs.Prelude.{option_map}
use Rattle.std.specs.List.{list_any}
use Rattle.std.specs.Str.{bytes_eq}
use Rattle.tm_base.specs.Limits.{image_version, most_cases}
use Rattle.tm_base.specs.declared.limits.TheConstants.{LEAST_PASSES, MOST_PASSES, MOST_SLOTS, WINDOWS}
use Rattle.tm_base.specs.declared.limits.TheConstants.{WINDOW_BYTES}
use Rattle.tm_base.specs.declared.Pos.{Pos}
use Rattle.tm_plan_map.specs.declared.windows.Window.{Window}
use Rattle.tm_place.specs.Numbers.{part_size}
use Rattle.tm_tmpl_types.specs.declared.template.Kind.{Kind}
use Rattle.tm_tmpl_types.specs.declared.template.Kind.TheVariants.{True, False, Own}
use Rattle.tm_tmpl_types.specs.declared.template.SlotText.{SlotText}
use Rattle.tm_tmpl_types.specs.declared.template.SlotText.TheVariants.{Emit, Mix}
use Rattle.tm_tmpl_types.specs.declared.template.SlotDecl.{SlotDecl}
use Rattle.tm_tmpl_types.specs.declared.template.Selector.{Selector}
use Rattle.tm_tmpl_types.specs.declared.template.Selector.TheVariants as whose
use Rattle.tm_tmpl_types.specs.declared.template.BodyDecl.{BodyDecl}
use Rattle.tm_tmpl_types.specs.declared.template.CaseDecl.{CaseDecl}
use Rattle.tm_tmpl_types.specs.declared.template.WindowDecl.{WindowDecl}
use Rattle.tm_tmpl_types.specs.declared.template.Template.{Template}
use Rattle.tm_topo.specs.declared.system.Topology.{Topology}
use Rattle.tm_refusals.specs.declared.rule.RuleFault.{RuleFault}
use Rattle.tm_refusals.specs.declared.rule.RuleFault.TheVariants.{Cases, Passes, Slots, Lines, NoWindow, NoHart}
use Rattle.tm_refusals.specs.declared.rule.RuleFault.TheVariants.{TwiceBody, TwiceName}
use Rattle.tm_rules_slot.specs.Teams.{harts_of, in_team, team}
use Rattle.tm_rules_slot.specs.Slots.{emit_fault, mix_fault}
use Rattle.tm_refusals.specs.declared.rule.RuleAt.{RuleAt}
use Rattle.tm_rules_first.specs.Windows.{windows_of}
use Rattle.tm_place.specs.Placing.{shape_of}

-- ---- checks

-- A check: where its statement's first word stands, and the fault where its rule is broken (this project).
abbrev pub Check : Type 0
Check = Pos × Option RuleFault

-- the fault where a rule doesn't hold (this project)
abbrev pub unless : Bool → RuleFault → Option RuleFault
unless holds fault = if holds then None else Some fault

-- the rules of one statement, in order, each at its place (this project)
abbrev pub put_at : Pos → List (Option RuleFault) → List Check
put_at p [] = []
put_at p (rule ∷ rules) = (p, rule) ∷ put_at p rules

-- the fault of a check that is broken, else what the checks behind it give (this project)
abbrev pub or_later : Pos → Option RuleFault → Option RuleAt → Option RuleAt
or_later p (Some fault) later = Some (record { pos = p; fault = fault })
or_later p None later = later

-- the first check that is broken (this project)
unfoldable pub first_of : List Check → Option RuleAt
first_of [] = None
first_of (check ∷ checks) = or_later check.0 check.1 (first_of checks)

-- the checks of statements in order, where those of each may speak of the statements before it (this project)
unfoldable pub in_turn : {A : Type 0} → (List A → A → List Check) → (before : List A) → List A → List Check
in_turn checks before [] = []
in_turn checks before (x ∷ xs) = checks before x ++ in_turn checks (before ++ x ∷ []) xs

-- ---- passes and windows

-- there are 2 to 8 passes (this project)
abbrev pub are_passes : ℕ → Bool
are_passes n = nat_le LEAST_PASSES n && nat_le n MOST_PASSES

-- an own window has a line for each of the harts (this project)
abbrev pub has_each : Kind → (harts lines : ℕ) → Bool
has_each Own harts lines = nat_le harts lines
has_each True harts lines = true
has_each False harts lines = true

-- a window has at least one line and at most 2048 bytes, and an own one a line for each hart (this project)
abbrev pub has_lines : Topology → Kind → (lines : ℕ) → Bool
has_lines topo kind lines =
    (nat_le 1 lines && nat_le (lines * topo.line) WINDOW_BYTES) && has_each kind (harts_of topo) lines

-- the rules of a window behind those before it: its number is below 3, and is new, and its lines are enough and not
-- too many (this project)
unfoldable pub window_rules : Topology → List WindowDecl → WindowDecl → List (Option RuleFault)
window_rules topo before w =
    unless (nat_lt w.number WINDOWS) (NoWindow w.number)
    ∷ unless (not (list_any (λ v. v.number == w.number) before)) TwiceName
    ∷ unless (has_lines topo w.kind w.lines) (Lines w.lines)
    ∷ []

-- the checks of a window behind those before it (this project)
unfoldable pub window_checks : Topology → List WindowDecl → WindowDecl → List Check
window_checks topo before w = put_at w.at (window_rules topo before w)

-- ---- slots

-- the slots that a statement of a body stands for: one, or as many as a mix says (this project)
abbrev pub slots_in : SlotText → ℕ
slots_in (Emit text) = 1
slots_in (Mix n alu load store branch) = n

-- the slots that statements stand for (this project)
unfoldable pub total_slots : List SlotDecl → ℕ
total_slots [] = 0
total_slots (d ∷ ds) = slots_in d.what + total_slots ds

-- a body's slots, counted up to 2^64 - 1 (this project)
unfoldable pub slot_count : List SlotDecl → ℕ
slot_count ds = min (total_slots ds) (2 ^ 64 - 1)

-- the fault of a statement of a body for a team, at slot n of len, where window w stands at place w of a shape: that
-- of the emit, or of the mix (this project)
unfoldable pub slot_fault : Topology → (shape : List (Option Window)) → Selector → (len n : ℕ) → SlotText
    → Option RuleFault
slot_fault topo shape whom len n (Emit text) = emit_fault topo.line (part_size topo.line (harts_of topo)) shape topo
    whom n len text
slot_fault topo shape whom len n (Mix count alu load store branch) = mix_fault shape alu load store branch

-- the check of a statement of a body behind those before it, which stand for the slots before it (this project)
unfoldable pub slot_checks : Topology → (shape : List (Option Window)) → Selector → (len : ℕ) → List SlotDecl
    → SlotDecl → List Check
slot_checks topo shape whom len before d = (d.at, slot_fault topo shape whom len (total_slots before) d.what) ∷ []

-- ---- bodies

-- the hart, core or thread that a selector names is there (this project)
abbrev pub is_there : Topology → Selector → Bool
is_there topo whose.All = true
is_there topo (whose.Hart n) = nat_lt n (harts_of topo)
is_there topo (whose.Core n) = nat_lt n topo.cores
is_there topo (whose.Thread n) = nat_lt n topo.threads

-- the number that a selector names (this project)
abbrev pub number_in : Selector → ℕ
number_in whose.All = 0
number_in (whose.Hart n) = n
number_in (whose.Core n) = n
number_in (whose.Thread n) = n

-- hart h is in the team of one of some bodies (this project)
abbrev pub has_body : Topology → List BodyDecl → ℕ → Bool
has_body topo bodies h = list_any (λ b. in_team topo b.whom h) bodies

-- the fault of the least hart of a team that an earlier body has (this project)
unfoldable pub twice_fault : Topology → List BodyDecl → Selector → Option RuleFault
twice_fault topo before whom = option_map TwiceBody (find (has_body topo before) (team topo whom))

-- the rules of a body of len slots behind those before it in its case: its selector names what is there, no hart of
-- its team has an earlier body, and it has 1 to 256 slots (this project)
unfoldable pub body_rules : Topology → List BodyDecl → Selector → (len : ℕ) → List (Option RuleFault)
body_rules topo before whom len =
    unless (is_there topo whom) (NoHart (number_in whom))
    ∷ twice_fault topo before whom
    ∷ unless (nat_le 1 len && nat_le len MOST_SLOTS) (Slots len)
    ∷ []

-- the checks of a body behind those before it in its case, and of its statements (this project)
unfoldable pub body_checks : Topology → (shape : List (Option Window)) → List BodyDecl → BodyDecl → List Check
body_checks topo shape before b = put_at b.at (body_rules topo before b.whom (slot_count b.slots))
    ++ in_turn (slot_checks topo shape b.whom (slot_count b.slots)) [] b.slots

-- ---- cases

-- the rules of a case of a name, of so many in all, behind those before it: it isn't the 33rd, and its name is new
-- (this project)
unfoldable pub case_rules : (count : ℕ) → List CaseDecl → (name : List ℕ) → List (Option RuleFault)
case_rules count before name =
    unless (not (length before == most_cases image_version)) (Cases count)
    ∷ unless (not (list_any (λ d. bytes_eq d.name name) before)) TwiceName
    ∷ []

-- the checks of a case, of so many in all, behind those before it, and of its bodies (this project)
unfoldable pub case_checks : Topology → (shape : List (Option Window)) → (count : ℕ) → List CaseDecl → CaseDecl
    → List Check
case_checks topo shape count before c = put_at c.at (case_rules count before c.name)
    ++ in_turn (body_checks topo shape) [] c.bodies

-- ---- a template

-- the checks of a template in text order: its passes, its windows, its cases with their bodies, and at its end that
-- there is a case (this project)
unfoldable pub checks_of : Topology → Template → List Check
checks_of topo t =
    (t.passes_at, unless (are_passes t.passes) (Passes t.passes))
    ∷ (in_turn (window_checks topo) [] t.windows
    ++ (in_turn (case_checks topo (shape_of (windows_of t.windows)) (length t.cases)) [] t.cases
    ++ (t.end, unless (not (length t.cases == 0)) (Cases 0)) ∷ []))

-- The first rule that a template for this topology breaks, and where (this project).
unfoldable pub broken_rule : Topology → Template → Option RuleAt
broken_rule topo t = first_of (checks_of topo t)

-- ---- what the first is

-- a check that is broken (this project)
abbrev pub broken : RuleAt → Check
broken r = (r.pos, Some r.fault)

-- no check of some is broken (this project)
abbrev pub NoneBroken : List Check → Type 0
NoneBroken checks = (k : ℕ) (r : RuleAt) → slice_get checks k ≢ Some (broken r)

-- a check of some is broken, and none before it is (this project)
pub record IsFirst (checks : List Check) (r : RuleAt) : Type 0 where
  pub place : ℕ
  pub here : slice_get checks place ≡ Some (broken r)
  pub before : (k : ℕ) (s : RuleAt) → k < place → slice_get checks k ≢ Some (broken s)
