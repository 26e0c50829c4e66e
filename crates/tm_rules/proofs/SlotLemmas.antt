-- The slots that statements without a fault stand for.
use Rattle.std.proofs.Common.{◌≡◌, ◌+◌, ◌<◌, ◌≤◌, ℕ, zero, suc, true, List, [], ◌∷◌, ◌++◌, length, get_or, Option}
use Rattle.std.proofs.Common.{Some, None, slice_get, refl, ◌∙◌, subst, arith, inl, inr}
use Rattle.std.proofs.lemmas.List.{length-append, length-replicate}
use Rattle.tm_asm_line.specs.Reading.{line_of}
use Rattle.tm_plan_map.specs.declared.windows.Window.{Window}
use Rattle.tm_plan_map.specs.declared.admitted.Slot.{Slot}
use Rattle.tm_plan_map.specs.declared.admitted.Slot.TheVariants as slot
use Rattle.tm_place.specs.Numbers.{part_size}
use Rattle.tm_place.specs.Sharing.{Sharing}
use Rattle.tm_place.specs.Ruled.{IsRuledSlot}
use Rattle.tm_place.proofs.AllowedLemmas.{Shown}
use Rattle.tm_place.proofs.PartLemmas.{line_size-cases, part_size-some}
use Rattle.tm_tmpl_types.specs.declared.template.SlotText.{SlotText}
use Rattle.tm_tmpl_types.specs.declared.template.SlotText.TheVariants as said
use Rattle.tm_tmpl_types.specs.declared.template.SlotDecl.{SlotDecl}
use Rattle.tm_tmpl_types.specs.declared.template.WindowDecl.{WindowDecl}
use Rattle.tm_tmpl_types.specs.declared.template.Selector.{Selector}
use Rattle.tm_topo.specs.declared.system.Topology.{Topology}
use Rattle.tm_rules_slot.specs.Teams.{harts_of, in_team}
use Rattle.tm_topo.specs.Limits.{IsInRange}
use Rattle.tm_rules_slot.proofs.Ruling.{emit-ruled, mix-ruled}
use Rattle.tm_rules_first.specs.Windows.{windows_of}
use Rattle.tm_rules_first.specs.Rules.{first_of, in_turn, window_checks, slots_in, total_slots, slot_fault, slot_checks}
use Rattle.tm_rules_slot.proofs.Checking.{first-none}
use Rattle.tm_rules_first.proofs.FirstLemmas.{first-both, put-none}
use Rattle.tm_rules_first.proofs.SoundLemmas.{numbered-sound}
use Rattle.tm_rules.specs.Admitting.{or_nothing, slots_of, written_out}
use Rattle.tm_rules.proofs.EachLemmas.{joined-at, replicated-at}
use Rattle.tm_place.specs.Placing.{numbered}
use Rattle.tm_place.specs.Placing.{shape_of}

-- how a system shares windows
abbrev pub shared : Topology → List Window → Sharing
shared topo windows = record {
  harts = harts_of topo;
  line = topo.line;
  part = part_size topo.line (harts_of topo);
  window = λ n. numbered windows n;
}

-- ---- windows in their shape

reads-past : (topo : Topology) (ws : List WindowDecl) → first_of (in_turn (window_checks topo) [] ws) ≡ None → (n : ℕ)
    → 3 ≤ n → (o : Option Window) → numbered (windows_of ws) n ≡ o → o ≡ None
reads-past topo ws none n past None is = refl
reads-past topo ws none n past (Some v) is = let at = numbered-sound topo ws none n v is in
    absurd (omega (arith, at.number, at.window.shaped.number))

shape-reads : (topo : Topology) (ws : List WindowDecl) → first_of (in_turn (window_checks topo) [] ws) ≡ None → (n : ℕ)
    → numbered (windows_of ws) n ≡ get_or (shape_of (windows_of ws)) n None
unfolding shape_of
shape-reads topo ws none zero = refl
shape-reads topo ws none (suc zero) = refl
shape-reads topo ws none (suc (suc zero)) = refl
shape-reads topo ws none (suc (suc (suc n))) = reads-past topo ws none (suc (suc (suc n))) (omega arith) _ refl

pub shared-shown : (topo : Topology) (ws : List WindowDecl) → IsInRange topo
    → first_of (in_turn (window_checks topo) [] ws) ≡ None
    → Shown (shared topo (windows_of ws)) (shape_of (windows_of ws))
shared-shown topo ws system none = record {
  sound = record {
    size = line_size-cases topo.line system.line;
    some = part_size-some topo.line (harts_of topo);
    windows = λ n v found. numbered-sound topo ws none n v found;
  };
  reads = shape-reads topo ws none;
}

-- where a window stands in the shape, there is one
some-first : (n : ℕ) (windows : List Window) (v : Window) → numbered windows n ≡ Some v → 1 ≤ length windows
some-first n [] v found = cc
some-first n (w ∷ windows) v found = omega arith

shape-some : (windows : List Window) (n : ℕ) (v : Window) → slice_get (shape_of windows) n ≡ Some (Some v)
    → 1 ≤ length windows
unfolding shape_of
shape-some windows zero v at = some-first 0 windows v cc
shape-some windows (suc zero) v at = some-first 1 windows v cc
shape-some windows (suc (suc zero)) v at = some-first 2 windows v cc
shape-some windows (suc (suc (suc n))) v at = cc

-- ---- the slots of one statement

-- what is known of the body of a hart
pub record Has (topo : Topology) (windows : List Window) (whom : Selector) (h : ℕ) : Type 0 where
  pub shown : Shown (shared topo windows) (shape_of windows)
  pub below : h < harts_of topo
  pub member : in_team topo whom h ≡ true

emit-slot : (topo : Topology) (windows : List Window) (whom : Selector) (len h n : ℕ) (text : List ℕ)
    → Has topo windows whom h
    → slot_fault topo (shape_of windows) whom len n (said.Emit text) ≡ None
    → IsRuledSlot (shared topo windows) windows h len n (slot.Emit (or_nothing (line_of text)))
unfolding slot_fault
emit-slot topo windows whom len h n text has none =
    let line = emit-ruled (shared topo windows) (shape_of windows) topo whom n len text has.shown refl none in
    rw line.read (line.each h has.below has.member)

mix-slot : (topo : Topology) (windows : List Window) (whom : Selector) (len h n m count alu load store branch : ℕ)
    → slot_fault topo (shape_of windows) whom len n (said.Mix count alu load store branch) ≡ None
    → IsRuledSlot (shared topo windows) windows h len m (slot.Mix alu load store branch)
unfolding slot_fault
mix-slot topo windows whom len h n m count alu load store branch none =
    let weights = mix-ruled (shape_of windows) alu load store branch none in
    record {
      some = weights.some;
      few = weights.few;
      places = λ some. let stands = weights.places some in
          shape-some windows stands.0 stands.1 stands.2;
    }

pub statement-slots : (topo : Topology) (windows : List Window) (whom : Selector) (len h n : ℕ) (what : SlotText)
    → Has topo windows whom h
    → slot_fault topo (shape_of windows) whom len n what ≡ None → (m : ℕ) (s : Slot) → slice_get (slots_of what) m
    ≡ Some s → IsRuledSlot (shared topo windows) windows h len (n + m) s
unfolding slots_of
statement-slots topo windows whom len h n (said.Emit text) has none zero s at =
    let same : slot.Emit (or_nothing (line_of text)) ≡ s = cc in
    let first : n ≡ n + 0 = omega arith in
    subst (λ x. IsRuledSlot (shared topo windows) windows h len (n + 0) x) same
    (subst (λ k. IsRuledSlot (shared topo windows) windows h len k (slot.Emit (or_nothing (line_of text)))) first
    (emit-slot topo windows whom len h n text has none))
statement-slots topo windows whom len h n (said.Emit text) has none (suc m) s at = cc
statement-slots topo windows whom len h n (said.Mix count alu load store branch) has none m s at =
    let same = replicated-at count m (slot.Mix alu load store branch) s at in
    subst (λ x. IsRuledSlot (shared topo windows) windows h len (n + m) x) same
    (mix-slot topo windows whom len h n (n + m) count alu load store branch none)

-- ---- the slots of all statements

statement-count : (what : SlotText) → length (slots_of what) ≡ slots_in what
unfolding slots_of
statement-count (said.Emit text) = refl
statement-count (said.Mix count alu load store branch) = length-replicate count (slot.Mix alu load store branch)

pub written-count : (ds : List SlotDecl) → length (written_out ds) ≡ total_slots ds
unfolding written_out total_slots
written-count [] = refl
written-count (d ∷ ds) = length-append (slots_of d.what) (written_out ds) ∙ omega (
  arith,
  statement-count d.what,
  written-count ds,
)

total-push : (ds : List SlotDecl) (d : SlotDecl) → total_slots (ds ++ d ∷ []) ≡ total_slots ds + slots_in d.what
unfolding total_slots
total-push [] d = omega arith
total-push (e ∷ ds) d = omega (arith, total-push ds d)

pub written-ruled : (topo : Topology) (windows : List Window) (whom : Selector) (len h : ℕ) → Has topo windows whom h
    → (before ds : List SlotDecl)
    → first_of (in_turn (slot_checks topo (shape_of windows) whom len) before ds) ≡ None
    → (m : ℕ) (s : Slot) → slice_get (written_out ds) m ≡ Some s
    → IsRuledSlot (shared topo windows) windows h len (total_slots before + m) s
unfolding in_turn slot_checks written_out
written-ruled topo windows whom len h has before [] none m s at = cc
written-ruled topo windows whom len h has before (d ∷ ds) none m s at =
    let both = first-both (slot_checks topo (shape_of windows) whom len before d)
    (in_turn (slot_checks topo (shape_of windows) whom len) (before ++ d ∷ []) ds) none in
    let fault = (first-none _ [] (put-none d.at (slot_fault topo (shape_of windows) whom len (total_slots before) d.what
    ∷ []) both.0)).0 in
    elim (joined-at (slots_of d.what) (written_out ds) m s at) [
      | inl here ↦ statement-slots topo windows whom len h (total_slots before) d.what has fault m s here
      | inr later ↦
          let more = written-ruled topo windows whom len h has (before ++ d ∷ []) ds both.1 later.0 s later.2 in
          let same : total_slots (before ++ d ∷ []) + later.0 ≡ total_slots before + m =
          omega (arith, total-push before d, statement-count d.what, later.1) in
          subst (λ k. IsRuledSlot (shared topo windows) windows h len k s) same more
    ]
