-- What a slot without a fault is.
use Rattle.std.proofs.Common.{◌≡◌, ◌≢◌, ◌≤◌, ◌<◌, ℕ, suc, ◌+◌, ◌-◌, ◌*◌, ◌/◌, ◌%◌, ◌^◌, ◌==◌, Bool, true, false, ◌&&◌}
use Rattle.std.proofs.Common.{not, nat_lt, nat_le, ℤ, pos, negsuc, ◌≤ℤ◌, List, [], ◌∷◌, find, get_or, Option, Some}
use Rattle.std.proofs.Common.{None, option_map, is_some, Result, Ok, Err, refl, ◌∙◌, ap, inl, inr, arith}
use Rattle.std.specs.List.{list_any}
use Rattle.std.proofs.lemmas.Bool.{and_parts, or_parts, not-false, ltb-true, ltb-false, leb-true, eqb-true, lt-ltb}
use Rattle.std.proofs.lemmas.Nat.{div-add-mod'}
use Rattle.std.proofs.Math.Nat.{mod-lt, mod-eq_of_lt, div-lt_iff_lt-mul}
use Rattle.std.proofs.lemmas.Int.{ints}
use Rattle.tm_table.specs.declared.instr.Op.{Op}
use Rattle.tm_table.specs.declared.instr.Op.TheVariants.{Lb, Lh, Lw, Ld, Lbu, Lhu, Lwu, Sb, Sh, Sw, Sd}
use Rattle.tm_table.specs.declared.instr.Instr.{Instr}
use Rattle.tm_table.specs.declared.table.Layout.{Layout}
use Rattle.tm_table.specs.declared.table.Layout.TheVariants.{R, I, S, B, U, J, Shift6, Shift5, Order, Whole}
use Rattle.tm_table.specs.Table.{row_of}
use Rattle.tm_table.specs.Words.{low, Fits, FitsAs}
use Rattle.tm_asm_line.specs.declared.fault.AsmFault.{AsmFault}
use Rattle.tm_asm_line.specs.Reading.{line_of}
use Rattle.tm_topo.specs.declared.system.Topology.{Topology}
use Rattle.tm_tmpl_types.specs.declared.template.Selector.{Selector}
use Rattle.tm_plan_map.specs.declared.windows.Window.{Window}
use Rattle.tm_plan_map.specs.Map.{window_at, within}
use Rattle.tm_plan_map.specs.Slots.{IsBase, is_access, is_product, is_jump, load_width, store_width, slot_addr}
use Rattle.tm_plan_map.specs.Slots.{slot_target}
use Rattle.tm_place.specs.Sharing.{Sharing}
use Rattle.tm_place.specs.Ruled.{IsBased, IsRuledEmit}
use Rattle.tm_place.specs.Allowed.{may_store_at, may_load_at}
use Rattle.tm_place.proofs.PartLemmas.{size-some}
use Rattle.tm_place.proofs.AllowedLemmas.{Shown, store-computed, load-computed}
use Rattle.tm_refusals.specs.declared.rule.RuleFault.{RuleFault}
use Rattle.tm_refusals.specs.declared.rule.RuleFault.TheVariants.{NoWindow, NotOwner, BadPlace, NotAllowed}
use Rattle.tm_rules_slot.specs.Teams.{harts_of, in_team, team}
use Rattle.tm_base.specs.declared.limits.TheConstants.{MOST_WEIGHTS}
use Rattle.tm_rules_slot.specs.Slots.{first, broken, barred, is_refused, within_registers, is_source, source_fault}
use Rattle.tm_rules_slot.specs.Slots.{window_fault}
use Rattle.tm_rules_slot.specs.Slots.{is_placed, width_of, place_fault, may_access, owner_fault, is_forward}
use Rattle.tm_rules_slot.specs.Slots.{target_fault, register_checks, access_checks, emit_checks, fault_of, emit_fault}
use Rattle.tm_rules_slot.specs.Slots.{weight_fault, any_window_fault, mix_fault}
use Rattle.tm_rules_slot.specs.Laws.{IsRuledLine, HasWindow, AreRuledWeights}
use Rattle.tm_rules_slot.proofs.Finding.{team-fails}
use Rattle.tm_rules_slot.proofs.Checking.{first-none, unbroken, stops-second, stops-third, comes-last, only-check}
use Rattle.tm_rules_slot.proofs.Reading.{line-fits}
use Rattle.tm_table.specs.Row.{IsWidth}

-- a rule that asks something where a test holds, and isn't broken
held : (b c : Bool) (f : RuleFault) → broken (b && not c) f ≡ None → b ≡ true → c ≡ true
held true true f e t = refl
held true false f e t = cc
held false c f e t = cc

-- ---- the windows of a mix

any-stands : (shape : List (Option Window)) → list_any is_some shape ≡ true → HasWindow shape
any-stands [] e = cc
any-stands (Some v ∷ shape) e = (0, v, refl)
any-stands (None ∷ shape) e = let more = any-stands shape e in (suc (more.0), more.1, more.2)

pub mix-ruled : (shape : List (Option Window)) (alu load store branch : ℕ) → mix_fault shape alu load store branch
    ≡ None → AreRuledWeights shape alu load store branch
unfolding mix_fault
mix-ruled shape alu load store branch e =
    let sum = alu + load + store + branch in
    let checks = first-none (weight_fault sum) (any_window_fault shape (load + store) ∷ []) e in
    let weights = and_parts (nat_le 1 sum) (nat_le sum MOST_WEIGHTS) (not-false _ (unbroken _ _ (checks.0))) in
    let windows = first-none (any_window_fault shape (load + store)) [] (checks.1) in
    record {
      some = leb-true 1 sum (weights.0);
      few = leb-true sum MOST_WEIGHTS (weights.1);
      places = λ some. any-stands shape (held (nat_lt 0 (load + store)) (list_any is_some shape) _ (windows.0)
          (lt-ltb 0 (load + store) (omega arith)));
    }

-- ---- ops

pub load-wide : (op : Op) → load_width op ≢ 0 → IsWidth (load_width op)
load-wide Lb h = inl refl
load-wide Lbu h = inl refl
load-wide Lh h = inr (inl refl)
load-wide Lhu h = inr (inl refl)
load-wide Lw h = inr (inr (inl refl))
load-wide Lwu h = inr (inr (inl refl))
load-wide Ld h = inr (inr (inr refl))
load-wide _ h = absurd (h refl)

pub store-wide : (op : Op) → store_width op ≢ 0 → IsWidth (store_width op)
store-wide Sb h = inl refl
store-wide Sh h = inr (inl refl)
store-wide Sw h = inr (inr (inl refl))
store-wide Sd h = inr (inr (inr refl))
store-wide _ h = absurd (h refl)

-- a store is no load
one-kind : (op : Op) → store_width op ≢ 0 → load_width op ≡ 0
one-kind Sb h = refl
one-kind Sh h = refl
one-kind Sw h = refl
one-kind Sd h = refl
one-kind _ h = absurd (h refl)

source-free : (i : Instr) → is_source i ≡ true → is_access i.op ≡ false → i.rs1 ≤ 27
source-free i e t = let read = rw t at e in leb-true i.rs1 27 read

source-base : (i : Instr) → is_source i ≡ true → is_access i.op ≡ true → IsBase i.rs1
source-base i e t = let read = rw t at e in let both = and_parts (nat_le 28 i.rs1) (nat_le i.rs1 30) read in
    (leb-true 28 i.rs1 (both.0), leb-true i.rs1 30 (both.1))

-- ---- the access of a load or store

abbrev Accessed : (line part : ℕ) → List (Option Window) → Topology → Selector → Instr → Option RuleFault
Accessed line part shape topo whom i = first (access_checks line part shape topo whom i)

pub access-none : (line part : ℕ) (shape : List (Option Window)) (topo : Topology) (whom : Selector) (i : Instr)
    → is_access i.op ≡ false → None ≡ Accessed line part shape topo whom i
unfolding window_fault place_fault owner_fault
access-none line part shape topo whom i t = rw t refl

pub access-undeclared : (line part : ℕ) (shape : List (Option Window)) (topo : Topology) (whom : Selector) (i : Instr)
    → is_access i.op ≡ true
    → get_or shape (i.rs1 - 28) None ≡ None → Some (NoWindow (i.rs1 - 28)) ≡ Accessed line part shape topo whom i
unfolding window_fault place_fault owner_fault
access-undeclared line part shape topo whom i t none = rw (t, none) refl

pub access-misplaced : (line part : ℕ) (shape : List (Option Window)) (topo : Topology) (whom : Selector) (i : Instr)
    (v : Window) → is_access i.op ≡ true
    → get_or shape (i.rs1 - 28) None ≡ Some v → is_placed line (i.rs1 - 28) (width_of i) (slot_addr i) (Some v) ≡ false
    → Some (BadPlace (slot_addr i)) ≡ Accessed line part shape topo whom i
unfolding window_fault place_fault owner_fault
access-misplaced line part shape topo whom i v t some off = rw (t, some, off) refl

pub access-owned : (line part : ℕ) (shape : List (Option Window)) (topo : Topology) (whom : Selector) (i : Instr)
    (v : Window) (o : Option ℕ) → is_access i.op ≡ true
    → get_or shape (i.rs1 - 28) None ≡ Some v → is_placed line (i.rs1 - 28) (width_of i) (slot_addr i) (Some v) ≡ true
    → o ≡ find (λ h. not (may_access (harts_of topo) line part shape i h)) (team topo whom)
    → option_map (λ h. NotOwner h (slot_addr i)) o ≡ Accessed line part shape topo whom i
unfolding window_fault place_fault owner_fault
access-owned line part shape topo whom i v None t some on found = rw (t, some, on, ← found) refl
access-owned line part shape topo whom i v (Some h) t some on found = rw (t, some, on, ← found) refl

-- ---- an instruction, group by group of its rules

abbrev Found : (line part : ℕ) → List (Option Window) → Topology → Selector → (n len : ℕ) → Instr → Option RuleFault
Found line part shape topo whom n len i = first (emit_checks line part shape topo whom n len i)

allowed : (i : Instr) → is_refused i.op ≡ false → barred i ≡ None
allowed i t = rw t refl

pub emit-refused : (line part : ℕ) (shape : List (Option Window)) (topo : Topology) (whom : Selector) (n len : ℕ)
    (i : Instr) → is_refused i.op ≡ true
    → Some (NotAllowed i.op) ≡ Found line part shape topo whom n len i
unfolding emit_checks
emit-refused line part shape topo whom n len i t = rw t refl

pub emit-register : (line part : ℕ) (shape : List (Option Window)) (topo : Topology) (whom : Selector) (n len : ℕ)
    (i : Instr) (f : RuleFault) → is_refused i.op ≡ false
    → first (register_checks i) ≡ Some f → Some f ≡ Found line part shape topo whom n len i
unfolding emit_checks
emit-register line part shape topo whom n len i f t =
    stops-second (barred i) (register_checks i) (access_checks line part shape topo whom i) (target_fault n len i ∷ [])
    f (allowed i t)

pub emit-access : (line part : ℕ) (shape : List (Option Window)) (topo : Topology) (whom : Selector) (n len : ℕ)
    (i : Instr) (f : RuleFault) → is_refused i.op ≡ false
    → first (register_checks i) ≡ None → Accessed line part shape topo whom i ≡ Some f
    → Some f ≡ Found line part shape topo whom n len i
unfolding emit_checks
emit-access line part shape topo whom n len i f t =
    stops-third (barred i) (register_checks i) (access_checks line part shape topo whom i) (target_fault n len i ∷ []) f
    (allowed i t)

pub emit-target : (line part : ℕ) (shape : List (Option Window)) (topo : Topology) (whom : Selector) (n len : ℕ)
    (i : Instr) → is_refused i.op ≡ false
    → first (register_checks i) ≡ None → Accessed line part shape topo whom i ≡ None → target_fault n len i
    ≡ Found line part shape topo whom n len i
unfolding emit_checks
emit-target line part shape topo whom n len i t registers access =
    only-check (target_fault n len i)
    ∙ comes-last (barred i) (register_checks i) (access_checks line part shape topo whom i) (target_fault n len i ∷ [])
    (allowed i t) registers access

-- weights without a fault, by their two rules
pub mix-passed : (shape : List (Option Window)) (alu load store branch sum accesses : ℕ) → weight_fault sum ≡ None
    → any_window_fault shape accesses ≡ None
    → sum ≡ alu + load + store + branch → accesses ≡ load + store → mix_fault shape alu load store branch ≡ None
unfolding mix_fault
mix-passed shape alu load store branch sum accesses weights windows e f = let a = rw e at weights in let b =
    rw f at windows in rw a (rw b refl)

-- ---- what the rules of an instruction say

parted-none : {A B : Type 0} (f : A → B) (o : Option A) → option_map f o ≡ None → o ≡ None
parted-none f None e = refl
parted-none f (Some x) e = cc

owner-allows : (line part : ℕ) (shape : List (Option Window)) (topo : Topology) (whom : Selector) (i : Instr)
    → owner_fault line part shape topo whom i ≡ None → is_access i.op ≡ true
    → (h : ℕ) → h < harts_of topo → in_team topo whom h ≡ true → may_access (harts_of topo) line part shape i h ≡ true
unfolding owner_fault
owner-allows line part shape topo whom i e t h less among =
    let found = rw t at e in
    let none = parted-none _ _ found in
    not-false _ (team-fails topo whom (λ g. not (may_access (harts_of topo) line part shape i g)) none h less among)

some-access : (op : Op) → load_width op + store_width op ≢ 0 → is_access op ≡ true
some-access op some = lt-ltb 0 (load_width op + store_width op) (omega arith)

access-load : (harts line part : ℕ) (shape : List (Option Window)) (i : Instr) (h : ℕ)
    → may_access harts line part shape i h ≡ true → load_width i.op ≢ 0
    → may_load_at harts line part shape h (slot_addr i) (load_width i.op) ≡ true
unfolding may_access
access-load harts line part shape i h e some = let test = lt-ltb 0 (load_width i.op) (omega arith) in rw test at e

access-store : (harts line part : ℕ) (shape : List (Option Window)) (i : Instr) (h : ℕ)
    → may_access harts line part shape i h ≡ true → store_width i.op ≢ 0
    → may_store_at harts line part shape h (slot_addr i) (store_width i.op) ≡ true
unfolding may_access
access-store harts line part shape i h e some = let none = one-kind i.op some in rw none at e

based-at : (s : Sharing) (shape : List (Option Window)) (i : Instr) → Shown s shape → (o : Option Window)
    → get_or shape (i.rs1 - 28) None ≡ o
    → is_placed s.line (i.rs1 - 28) (width_of i) (slot_addr i) o ≡ true → IsBased s i
based-at s shape i shown None e t = cc
based-at s shape i shown (Some v) e t =
    let w = i.rs1 - 28 in
    let there : s.window w ≡ Some v = shown.reads w ∙ e in
    let is = shown.sound.windows w v there in
    let inside = and_parts (nat_le (window_at w) (slot_addr i)) (nat_lt (slot_addr i) (window_at w + v.lines * s.line))
    (and_parts (slot_addr i % width_of i == 0) (within (window_at w) (v.lines * s.line) (slot_addr i)) t).1 in
    let low : window_at w ≤ slot_addr i = leb-true (window_at w) (slot_addr i) (inside.0) in
    let high : slot_addr i < window_at w + v.lines * s.line =
    ltb-true (slot_addr i) (window_at w + v.lines * s.line) (inside.1) in
    let some : 1 ≤ s.line = size-some s.line shown.sound.size in
    let parts = div-add-mod' (slot_addr i - window_at w) s.line in
    let off : slot_addr i - window_at w < v.lines * s.line = omega arith in
    record {
      window = v;
      line = (slot_addr i - window_at w) / s.line;
      byte = (slot_addr i - window_at w) % s.line;
      base = is.number;
      stands = record {
        declared = ap s.window is.number ∙ there;
        line = (div-lt_iff_lt-mul some).1 off;
        byte = mod-lt (slot_addr i - window_at w) some;
        place = rw is.number (omega arith);
      };
    }

imm-below : (l : Layout) (i : Instr) → FitsAs l i → i.imm ≤ℤ pos 1048575
imm-below R i h = omega (arith, ints, h.3)
imm-below I i h = omega (arith, ints, h.3.1)
imm-below S i h = omega (arith, ints, h.3.1)
imm-below B i h = omega (arith, ints, h.3.1)
imm-below U i h = h.3.1
imm-below J i h = h.3.1
imm-below Shift6 i h = omega (arith, ints, h.3.1)
imm-below Shift5 i h = omega (arith, ints, h.3.1)
imm-below Order i h = omega (arith, ints, h.3.1)
imm-below Whole i h = omega (arith, ints, h.3)

pub fits-below : (i : Instr) → Fits i → i.imm ≤ℤ pos 1048575
unfolding Fits
fits-below i h = imm-below (row_of i.op).layout i h

goes-forward : (n len : ℕ) (z : ℤ) → z ≤ℤ pos 1048575 → is_forward n len z ≡ true → (low 64 z % 4 ≡ 0)
    × (n < n + low 64 z / 4) × (n + low 64 z / 4 ≤ len)
goes-forward n len (pos o) few e =
    let small : o ≤ 1048575 = omega (arith, ints) in
    let same : o % 2 ^ 64 ≡ o = mod-eq_of_lt (omega arith) in
    let parts = and_parts (o % 4 == 0 && nat_le 4 o) (nat_le (n + o / 4) len) e in
    let begin = and_parts (o % 4 == 0) (nat_le 4 o) (parts.0) in
    let whole = eqb-true (o % 4) 0 (begin.0) in
    let four = leb-true 4 o (begin.1) in
    let end = leb-true (n + o / 4) len (parts.1) in
    rw same (whole, omega arith, end)
goes-forward n len (negsuc k) few e = cc

-- an instruction of which no rule is broken is no product
pub no-product : (line part : ℕ) (shape : List (Option Window)) (topo : Topology) (whom : Selector) (n len : ℕ)
    (i : Instr) → first (emit_checks line part shape topo whom n len i) ≡ None → is_product i.op ≡ false
unfolding emit_checks
no-product line part shape topo whom n len i e = (or_parts _ _ (unbroken _ _ (first-none (barred i) _ e).0)).1

-- An instruction of which no rule is broken is one that each hart of the body may run.
pub instr-ruled : (s : Sharing) (shape : List (Option Window)) (topo : Topology) (whom : Selector) (n len : ℕ)
    (i : Instr) → Shown s shape → s.harts ≡ harts_of topo → Fits i
    → first (emit_checks s.line s.part shape topo whom n len i) ≡ None → (h : ℕ) → h < harts_of topo
    → in_team topo whom h ≡ true → IsRuledEmit s h len n i
unfolding emit_checks place_fault slot_target
instr-ruled s shape topo whom n len i shown harts fits e h less among =
    let a = first-none (barred i) _ e in
    let b = first-none (within_registers i.rd) _ (a.1) in
    let d = first-none (source_fault i) _ (b.1) in
    let f = first-none (within_registers i.rs2) _ (d.1) in
    let g = first-none (window_fault shape i) _ (f.1) in
    let j = first-none (place_fault s.line shape i) _ (g.1) in
    let k = first-none (owner_fault s.line s.part shape topo whom i) _ (j.1) in
    let l = first-none (target_fault n len i) _ (k.1) in
    let source = not-false (is_source i) (unbroken _ _ (d.0)) in
    let allows : is_access i.op ≡ true → may_access s.harts s.line s.part shape i h ≡ true =
    λ t. rw harts (owner-allows s.line s.part shape topo whom i (k.0) t h less among) in
    record {
      fits = fits;
      allowed = (or_parts _ _ (unbroken _ _ (a.0))).0;
      result = ltb-false 27 i.rd (unbroken _ _ (b.0));
      second = ltb-false 27 i.rs2 (unbroken _ _ (f.0));
      first = source-free i source;
      base = source-base i source;
      place = λ t. based-at s shape i shown (get_or shape (i.rs1 - 28) None) refl (held (is_access i.op) _ _ (j.0) t);
      loads = λ some.
          (load-computed s shape h (slot_addr i) (load_width i.op) shown (load-wide i.op some)).0
          (access-load s.harts s.line s.part shape i h (allows (some-access i.op (λ e. some (omega arith)))) some);
      stores = λ some.
          (store-computed s shape h (slot_addr i) (store_width i.op) shown (store-wide i.op some)).0
          (access-store s.harts s.line s.part shape i h (allows (some-access i.op (λ e. some (omega arith)))) some);
      target = λ t. goes-forward n len i.imm (fits-below i fits)
          (held (is_jump i.op) (is_forward n len i.imm) _ (l.0) t);
    }

ruled-by : (s : Sharing) (shape : List (Option Window)) (topo : Topology) (whom : Selector) (n len : ℕ) (text : List ℕ)
    (r : Result Instr AsmFault) → line_of text ≡ r → Shown s shape
    → s.harts ≡ harts_of topo → fault_of r (λ i. first (emit_checks s.line s.part shape topo whom n len i)) ≡ None
    → IsRuledLine s topo whom len n text
ruled-by s shape topo whom n len text (Err f) is shown harts e = cc
ruled-by s shape topo whom n len text (Ok i) is shown harts e = record {
  instr = i;
  read = is;
  allowed = no-product s.line s.part shape topo whom n len i e;
  each = instr-ruled s shape topo whom n len i shown harts (line-fits text i is) e;
}

-- A line without a fault spells an instruction that each hart of the body may run.
pub emit-ruled : (s : Sharing) (shape : List (Option Window)) (topo : Topology) (whom : Selector) (n len : ℕ)
    (text : List ℕ) → Shown s shape → s.harts ≡ harts_of topo
    → emit_fault s.line s.part shape topo whom n len text ≡ None → IsRuledLine s topo whom len n text
unfolding emit_fault
emit-ruled s shape topo whom n len text shown harts e =
    ruled-by s shape topo whom n len text (line_of text) refl shown harts e
