-- A template that breaks no rule is admitted in a form that is ruled.
use Rattle.std.proofs.Common.{◌≡◌, ◌≢◌, ◌+◌, ◌<◌, ◌==◌, ℕ, zero, suc, List, [], ◌∷◌, map, length, take, Option, Some}
use Rattle.std.proofs.Common.{None, slice_get, refl, sym, ◌∙◌, subst, arith, rules}
use Rattle.std.specs.Prelude.{find, AllPairs}
use Rattle.std.proofs.lemmas.Bool.{leb-true, eq-eqb, and_parts, true≢false}
use Rattle.std.proofs.lemmas.List.{length-map, length-take-le}
use Rattle.tm_table.specs.Words.{Fits}
use Rattle.tm_base.specs.Lists.{count_from}
use Rattle.tm_base.proofs.ListLemmas.{get-some, length-count_from}
use Rattle.tm_base.specs.Limits.{image_version, most_cases}
use Rattle.tm_base.specs.declared.limits.TheConstants.{LEAST_PASSES, MOST_PASSES}
use Rattle.tm_plan_map.specs.declared.windows.Window.{Window}
use Rattle.tm_plan_map.specs.declared.admitted.Slot.{Slot}
use Rattle.tm_plan_map.specs.declared.admitted.Slot.TheVariants as slot
use Rattle.tm_place.specs.Ruled.{IsRuledEmit, IsRuledSlot, AreRuledSlots, IsRuledCase, IsRuled}
use Rattle.tm_place.specs.Limits.{IsWindow}
use Rattle.tm_place.proofs.AllowedLemmas.{Shown}
use Rattle.tm_tmpl_types.specs.declared.template.BodyDecl.{BodyDecl}
use Rattle.tm_tmpl_types.specs.declared.template.CaseDecl.{CaseDecl}
use Rattle.tm_tmpl_types.specs.declared.template.WindowDecl.{WindowDecl}
use Rattle.tm_tmpl_types.specs.declared.template.Template.{Template}
use Rattle.tm_topo.specs.declared.system.Topology.{Topology}
use Rattle.tm_rules_slot.specs.Teams.{harts_of, in_team}
use Rattle.tm_topo.specs.Limits.{IsInRange}
use Rattle.tm_rules_slot.specs.Slots.{first}
use Rattle.tm_rules_first.specs.Windows.{window_of, windows_of}
use Rattle.tm_rules_first.specs.Rules.{first_of, in_turn, window_checks, slot_count, slot_checks, body_rules}
use Rattle.tm_rules_first.specs.Rules.{body_checks, case_rules, case_checks, broken_rule}
use Rattle.tm_rules_first.proofs.FirstLemmas.{first-both, put-none}
use Rattle.tm_rules_first.proofs.TurnLemmas.{turn-each}
use Rattle.tm_rules_first.proofs.FindLemmas.{found-in}
use Rattle.tm_rules_first.proofs.CountLemmas.{total-none, count-small}
use Rattle.tm_rules_first.proofs.SoundLemmas.{windows-sound, mapped-at, body-sound, case-sound, system-harts}
use Rattle.tm_rules_first.proofs.TemplateLemmas.{parts-none}
use Rattle.tm_rules.specs.Admitting.{nothing, slots_in, written_out, hart_slots, admitted_case, admitted_of}
use Rattle.tm_rules.proofs.EachLemmas.{all-images, pair-images, any-fails, counted-at}
use Rattle.tm_rules.proofs.SlotLemmas.{shared, shared-shown, Has, written-count, written-ruled}
use Rattle.tm_place.specs.Placing.{shape_of}

-- ---- the slots of a hart

nothing-ruled : (topo : Topology) (windows : List Window) (h : ℕ) → IsRuledEmit (shared topo windows) h 1 0 nothing
unfolding nothing Fits
nothing-ruled topo windows h = record {
  fits = search rules;
  allowed = refl;
  result = omega arith;
  second = omega arith;
  first = λ e. omega arith;
  base = λ e. cc;
  place = λ e. cc;
  loads = λ some. absurd (some refl);
  stores = λ some. absurd (some refl);
  target = λ e. cc;
}

one-slot : (topo : Topology) (windows : List Window) (h n : ℕ) (s : Slot) → slice_get (slot.Emit nothing ∷ []) n
    ≡ Some s → IsRuledSlot (shared topo windows) windows h 1 n s
one-slot topo windows h zero s at =
    let same : slot.Emit nothing ≡ s = cc in
    subst (λ x. IsRuledSlot (shared topo windows) windows h 1 0 x) same (nothing-ruled topo windows h)
one-slot topo windows h (suc n) s at = cc

one-ruled : (topo : Topology) (windows : List Window) (h : ℕ)
    → AreRuledSlots (shared topo windows) windows h (slot.Emit nothing ∷ [])
one-ruled topo windows h = record { some = omega arith; few = omega arith; each = one-slot topo windows h }

body-ruled : (topo : Topology) (windows : List Window) (before : List BodyDecl) (b : BodyDecl) (h : ℕ)
    → Has topo windows b.whom h
    → first_of (body_checks topo (shape_of windows) before b) ≡ None
    → AreRuledSlots (shared topo windows) windows h (written_out b.slots)
unfolding body_checks
body-ruled topo windows before b h has none =
    let both = first-both _ (in_turn (slot_checks topo (shape_of windows) b.whom (slot_count b.slots)) [] b.slots) none
    in
    let count = body-sound topo before b.whom (slot_count b.slots)
    (put-none b.at (body_rules topo before b.whom (slot_count b.slots)) both.0) in
    let len : slot_count b.slots ≡ length (written_out b.slots) =
    sym (written-count b.slots ∙ count-small b.slots count.3) in
    record {
      some = rw (← len) count.2;
      few = rw (← len) count.3;
      each = λ n s at.
          let ruled = written-ruled topo windows b.whom (slot_count b.slots) h has [] b.slots both.1 n s at in
          let from : 0 + n ≡ n = omega arith in
          rw (← len) (rw (total-none, from) at ruled);
    }

-- ---- cases

chosen-ruled : (topo : Topology) (windows : List Window) (bodies : List BodyDecl) (h : ℕ)
    → Shown (shared topo windows) (shape_of windows) → h < harts_of topo
    → first_of (in_turn (body_checks topo (shape_of windows)) [] bodies) ≡ None
    → (o : Option BodyDecl) → find (λ b. in_team topo b.whom h) bodies ≡ o
    → AreRuledSlots (shared topo windows) windows h (slots_in o)
chosen-ruled topo windows bodies h shown below none None is = one-ruled topo windows h
chosen-ruled topo windows bodies h shown below none (Some b) is =
    let found = found-in (λ c. in_team topo c.whom h) bodies b is in
    body-ruled topo windows (take found.1.0 bodies) b h (record { shown = shown; below = below; member = found.0 })
    (turn-each (body_checks topo (shape_of windows)) [] bodies none found.1.0 b found.1.1)

case-ruled : (topo : Topology) (windows : List Window) (c : CaseDecl) → Shown (shared topo windows) (shape_of windows)
    → first_of (in_turn (body_checks topo (shape_of windows)) [] c.bodies) ≡ None
    → IsRuledCase (shared topo windows) windows (admitted_case topo c)
unfolding hart_slots
case-ruled topo windows c shown none = record {
  harts = length-map (count_from 0 (harts_of topo)) (hart_slots topo c.bodies) ∙ length-count_from 0 (harts_of topo);
  each = λ h slots at.
      let place = mapped-at (hart_slots topo c.bodies) (count_from 0 (harts_of topo)) h slots at in
      let number = counted-at 0 (harts_of topo) h place.0 place.1 in
      let same : place.0 ≡ h = omega (arith, number.0) in
      let slots_are : hart_slots topo c.bodies h ≡ slots = rw same at place.2 in
      subst (AreRuledSlots (shared topo windows) windows h) slots_are
      (chosen-ruled topo windows c.bodies h shown number.1 none (find (λ b. in_team topo b.whom h) c.bodies) refl);
}

-- what a case without a fault keeps
case-parts : (topo : Topology) (t : Template)
    → first_of (in_turn (case_checks topo (shape_of (windows_of t.windows)) (length t.cases)) [] t.cases) ≡ None
    → (k : ℕ) (c : CaseDecl) → slice_get t.cases k ≡ Some c
    → (first (case_rules (length t.cases) (take k t.cases) c.name) ≡ None)
    × (first_of (in_turn (body_checks topo (shape_of (windows_of t.windows))) [] c.bodies) ≡ None)
unfolding case_checks
case-parts topo t none k c at =
    let checks = case_checks topo (shape_of (windows_of t.windows)) (length t.cases) in
    let both = first-both _ (in_turn (body_checks topo (shape_of (windows_of t.windows))) [] c.bodies)
    (turn-each checks [] t.cases none k c at) in
    (put-none c.at (case_rules (length t.cases) (take k t.cases) c.name) both.0, both.1)

few-cases : (topo : Topology) (t : Template)
    → first_of (in_turn (case_checks topo (shape_of (windows_of t.windows)) (length t.cases)) [] t.cases) ≡ None
    → (most_cases image_version < length t.cases → ⊥)
few-cases topo t none many =
    let most = most_cases image_version in
    let last = get-some t.cases most many in
    let rules = (case-parts topo t none most last.0 last.1).0 in
    (case-sound (length t.cases) (take most t.cases) last.0.name rules).0 (length-take-le most t.cases (omega arith))

-- ---- the whole form

numbers-differ : (topo : Topology) (ws : List WindowDecl) → first_of (in_turn (window_checks topo) [] ws) ≡ None
    → AllPairs (λ v w. v.number ≢ w.number) (windows_of ws)
numbers-differ topo ws none = pair-images window_of (λ v w. v.number ≢ w.number) ws (λ j w there i v before here.
    let fails = any-fails (λ u. u.number == w.number) ws j (windows-sound topo ws none j w there).1 i v before here in
    λ same. true≢false (sym (eq-eqb _ _ same) ∙ fails))

-- A template that breaks no rule is admitted as a test that no rule refuses.
pub admitted-ruled : (topo : Topology) (t : Template) → IsInRange topo → broken_rule topo t ≡ None
    → IsRuled (admitted_of topo t)
unfolding admitted_of
admitted-ruled topo t system none =
    let parts = parts-none topo t none in
    let passes = and_parts _ _ parts.0 in
    let shown = shared-shown topo t.windows system parts.1 in
    let same : length (map (admitted_case topo) t.cases) ≡ length t.cases = length-map t.cases (admitted_case topo) in
    record {
      harts = system-harts topo system;
      line = system.line;
      part = refl;
      bias = system.bias;
      passes = (leb-true LEAST_PASSES t.passes passes.0, leb-true t.passes MOST_PASSES passes.1);
      windows = all-images window_of (IsWindow (harts_of topo) topo.line) t.windows
          (λ k w at. (windows-sound topo t.windows parts.1 k w at).0);
      apart = numbers-differ topo t.windows parts.1;
      count = (omega (arith, same, parts.3), omega (arith, same, few-cases topo t parts.2));
      each = all-images (admitted_case topo) (IsRuledCase (shared topo (windows_of t.windows)) (windows_of t.windows))
          t.cases
          (λ k c at. case-ruled topo (windows_of t.windows) c shown (case-parts topo t parts.2 k c at).1);
    }
