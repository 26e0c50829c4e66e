-- What statements are that break no rule.
use Rattle.std.proofs.Common.{◌≡◌, ◌≢◌, ◌*◌, ◌≤◌, ◌==◌, ℕ, zero, suc, Bool, true, false, List, [], ◌∷◌, map, length}
use Rattle.std.proofs.Common.{take, Some, None, slice_get, refl, sym, ◌∙◌, subst}
use Rattle.std.specs.List.{list_any}
use Rattle.std.specs.Str.{bytes_eq}
use Rattle.std.proofs.lemmas.Bool.{leb-true, ltb-true, eq-eqb, eqb-true, not-true, and_parts, true≢false}
use Rattle.std.proofs.Math.Nat.{mul-le-mul}
use Rattle.tm_base.specs.Limits.{image_version, most_harts, most_cases}
use Rattle.tm_base.specs.declared.limits.TheConstants.{MOST_SLOTS, WINDOWS, WINDOW_BYTES}
use Rattle.tm_refusals.specs.declared.rule.RuleFault.{RuleFault}
use Rattle.tm_rules_slot.specs.Teams.{harts_of}
use Rattle.tm_topo.specs.Limits.{IsInRange}
use Rattle.tm_rules_slot.specs.Slots.{first}
use Rattle.tm_rules_slot.proofs.Checking.{first-none}
use Rattle.tm_plan_map.specs.declared.windows.Window.{Window}
use Rattle.tm_plan_map.specs.declared.windows.Kind2.TheVariants.{Own}
use Rattle.tm_place.specs.Limits.{IsWindow, IsWindowAt}
use Rattle.tm_tmpl_types.specs.declared.template.Kind.{Kind}
use Rattle.tm_tmpl_types.specs.declared.template.Kind.TheVariants as said
use Rattle.tm_tmpl_types.specs.declared.template.WindowDecl.{WindowDecl}
use Rattle.tm_tmpl_types.specs.declared.template.BodyDecl.{BodyDecl}
use Rattle.tm_tmpl_types.specs.declared.template.CaseDecl.{CaseDecl}
use Rattle.tm_tmpl_types.specs.declared.template.Selector.{Selector}
use Rattle.tm_topo.specs.declared.system.Topology.{Topology}
use Rattle.tm_rules_first.specs.Windows.{kind_of, window_of, windows_of}
use Rattle.tm_rules_first.specs.Rules.{unless, first_of, in_turn, has_each, window_rules, window_checks, is_there}
use Rattle.tm_rules_first.specs.Rules.{twice_fault, body_rules, case_rules}
use Rattle.tm_rules_first.proofs.FirstLemmas.{put-none}
use Rattle.tm_rules_first.proofs.TurnLemmas.{turn-each}
use Rattle.tm_rules_first.proofs.FindLemmas.{found-in}
use Rattle.tm_place.specs.Placing.{numbered}

-- ---- single rules

pub unless-true : (b : Bool) (f : RuleFault) → unless b f ≡ None → b ≡ true
unless-true true f none = refl
unless-true false f none = cc

-- ---- windows

own-lines : (k : Kind) (harts lines : ℕ) → has_each k harts lines ≡ true → kind_of k ≡ Own → harts ≤ lines
own-lines said.True harts lines each own = cc
own-lines said.False harts lines each own = cc
own-lines said.Own harts lines each own = leb-true harts lines each

pub window-sound : (topo : Topology) (before : List WindowDecl) (w : WindowDecl) → first (window_rules topo before w)
    ≡ None
    → IsWindow (harts_of topo) topo.line (window_of w) × (list_any (λ v. v.number == w.number) before ≡ false)
unfolding window_rules
window-sound topo before w none =
    let a = first-none _ _ none in
    let b = first-none _ _ a.1 in
    let lines = and_parts _ _ (unless-true _ _ (first-none _ _ b.1).0) in
    let number = and_parts _ _ lines.0 in (
      record {
        shaped = record {
          number = ltb-true w.number WINDOWS (unless-true _ _ a.0);
          some = leb-true 1 w.lines number.0;
          few = leb-true (w.lines * topo.line) WINDOW_BYTES number.1;
        };
        each = own-lines w.kind (harts_of topo) w.lines lines.1;
      },
      not-true _ (unless-true _ _ b.0),
    )

pub windows-sound : (topo : Topology) (ws : List WindowDecl) → first_of (in_turn (window_checks topo) [] ws) ≡ None
    → (k : ℕ) (w : WindowDecl) → slice_get ws k ≡ Some w
    → IsWindow (harts_of topo) topo.line (window_of w) × (list_any (λ v. v.number == w.number) (take k ws) ≡ false)
unfolding window_checks
windows-sound topo ws none k w at =
    window-sound topo (take k ws) w (put-none w.at (window_rules topo (take k ws) w)
    (turn-each (window_checks topo) [] ws none k w at))

pub mapped-at : {A B : Type 0} (f : A → B) (xs : List A) (k : ℕ) (y : B) → slice_get (map f xs) k ≡ Some y → (x : A)
    × (slice_get xs k ≡ Some x) × (f x ≡ y)
mapped-at f [] k y at = cc
mapped-at f (x ∷ xs) zero y at = (x, refl, cc)
mapped-at f (x ∷ xs) (suc k) y at = mapped-at f xs k y at

-- the window of a number, where windows break no rule
pub numbered-sound : (topo : Topology) (ws : List WindowDecl) → first_of (in_turn (window_checks topo) [] ws) ≡ None
    → (n : ℕ) (v : Window) → numbered (windows_of ws) n ≡ Some v
    → IsWindowAt (harts_of topo) topo.line n v
numbered-sound topo ws none n v found =
    let stands = found-in (λ w. w.number == n) (windows_of ws) v found in
    let said = mapped-at window_of ws stands.1.0 v stands.1.1 in
    let ruled : IsWindow (harts_of topo) topo.line v =
    subst (IsWindow (harts_of topo) topo.line) said.2 (windows-sound topo ws none stands.1.0 said.0 said.1).0
    in
    record { number = eqb-true v.number n stands.0; window = ruled }

-- ---- bodies and cases

pub body-sound : (topo : Topology) (before : List BodyDecl) (whom : Selector) (len : ℕ)
    → first (body_rules topo before whom len) ≡ None
    → (is_there topo whom ≡ true) × (twice_fault topo before whom ≡ None) × (1 ≤ len) × (len ≤ MOST_SLOTS)
unfolding body_rules
body-sound topo before whom len none =
    let a = first-none _ _ none in
    let b = first-none _ _ a.1 in
    let count = and_parts _ _ (unless-true _ _ (first-none _ _ b.1).0) in
    (unless-true _ _ a.0, b.0, leb-true 1 len count.0, leb-true len MOST_SLOTS count.1)

pub case-sound : (count : ℕ) (before : List CaseDecl) (name : List ℕ) → first (case_rules count before name) ≡ None
    → (length before ≢ most_cases image_version) × (list_any (λ d. bytes_eq d.name name) before ≡ false)
unfolding case_rules
case-sound count before name none =
    let a = first-none _ _ none in
    let other : (length before == most_cases image_version) ≡ false = not-true _ (unless-true _ _ a.0) in
    (λ same. true≢false (sym (eq-eqb _ _ same) ∙ other), not-true _ (unless-true _ _ (first-none _ _ a.1).0))

-- ---- systems

pub system-harts : (topo : Topology) → IsInRange topo → (1 ≤ harts_of topo) × (harts_of topo ≤ most_harts image_version)
system-harts topo system = (
  let some : 1 * 1 ≤ topo.cores * topo.threads = mul-le-mul system.cores.0 system.threads.0 in
      some,
  system.harts,
)
