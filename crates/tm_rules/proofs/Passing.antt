-- A line that each hart of its body may run has no fault.
use Rattle.std.proofs.Common.{◌≡◌, ◌≢◌, ◌≤◌, ◌<◌, ℕ, zero, suc, ◌+◌, ◌-◌, ◌*◌, ◌/◌, ◌%◌, ◌^◌, true, false, ◌&&◌, not}
use Rattle.std.proofs.Common.{ℤ, pos, negsuc, ◌≤ℤ◌, List, [], ◌∷◌, get_or, slice_get, is_some, Option, Some, None}
use Rattle.std.proofs.Common.{refl, sym, ◌∙◌, ap, subst, inl, inr, arith}
use Rattle.std.specs.List.{list_any}
use Rattle.std.proofs.lemmas.Bool.{cases_Bool, cases_eq, and_from, or_from, lt-ltb, le-ltb, le-leb, eq-eqb, ltb-true}
use Rattle.std.proofs.lemmas.Int.{ints}
use Rattle.std.proofs.Math.Nat.{mod-eq_of_lt, mul-le-mul_right}
use Rattle.tm_table.specs.declared.instr.Op.{Op}
use Rattle.tm_table.specs.declared.instr.Op.TheVariants.{Lb, Lh, Lw, Ld, Lbu, Lhu, Lwu}
use Rattle.tm_table.specs.declared.instr.Instr.{Instr}
use Rattle.tm_table.specs.declared.table.Layout.{Layout}
use Rattle.tm_table.specs.declared.table.Layout.TheVariants.{R, I, S, B, U, J, Shift6, Shift5, Order, Whole}
use Rattle.tm_table.specs.Table.{row_of}
use Rattle.tm_table.specs.Words.{low, Fits, FitsAs}
use Rattle.tm_topo.specs.declared.system.Topology.{Topology}
use Rattle.tm_tmpl_types.specs.declared.template.Selector.{Selector}
use Rattle.tm_plan_map.specs.declared.windows.Window.{Window}
use Rattle.tm_plan_map.specs.Map.{window_at, within}
use Rattle.tm_plan_map.specs.Slots.{is_access, is_jump, load_width, store_width, slot_addr, slot_target}
use Rattle.tm_place.specs.Sharing.{Sharing, StandsAt}
use Rattle.tm_place.specs.Ruled.{IsBased, IsRuledEmit}
use Rattle.tm_place.proofs.AllowedLemmas.{Shown, store-computed, load-computed}
use Rattle.tm_rules_slot.specs.Teams.{harts_of, in_team}
use Rattle.tm_rules_slot.specs.Slots.{first, is_source, is_placed, width_of, may_access, is_forward, target_fault}
use Rattle.tm_rules_slot.specs.Slots.{register_checks, access_checks, emit_fault, mix_fault}
use Rattle.tm_base.specs.declared.limits.TheConstants.{MOST_SLOTS, MOST_WEIGHTS}
use Rattle.tm_rules_slot.specs.Laws.{IsRuledLine, AreRuledWeights}
use Rattle.tm_rules.specs.Laws.{HasHart}
use Rattle.tm_rules_slot.proofs.Finding.{team-none}
use Rattle.tm_rules_slot.proofs.Ruling.{load-wide, store-wide, fits-below, access-none, access-owned, emit-target}

-- ---- registers

source-passes : (s : Sharing) (h len n : ℕ) (i : Instr) → IsRuledEmit s h len n i → is_source i ≡ true
source-passes s h len n i m = elim (cases_Bool (is_access i.op)) [
  | inl t ↦ let a = le-leb 28 i.rs1 ((m.base t).0) in let b = le-leb i.rs1 30 ((m.base t).1) in rw (t, a, b) refl
  | inr f ↦ let a = le-leb i.rs1 27 (m.first f) in rw (f, a) refl
]

registers-pass : (s : Sharing) (h len n : ℕ) (i : Instr) → IsRuledEmit s h len n i → first (register_checks i) ≡ None
registers-pass s h len n i m =
    let a = le-ltb 27 i.rd m.result in
    let b = source-passes s h len n i m in
    let d = le-ltb 27 i.rs2 m.second in
    rw (a, b, d) refl

-- ---- an access

-- a load is no store
other-kind : (op : Op) → load_width op ≢ 0 → store_width op ≡ 0
other-kind Lb h = refl
other-kind Lbu h = refl
other-kind Lh h = refl
other-kind Lhu h = refl
other-kind Lw h = refl
other-kind Lwu h = refl
other-kind Ld h = refl
other-kind _ h = absurd (h refl)

moves : (op : Op) → is_access op ≡ true → load_width op ≡ 0 → store_width op ≢ 0
moves op t none still = let some = ltb-true 0 (load_width op + store_width op) t in omega arith

access-aligned : (s : Sharing) (h len n : ℕ) (i : Instr) → IsRuledEmit s h len n i → is_access i.op ≡ true
    → slot_addr i % width_of i ≡ 0
access-aligned s h len n i m t = elim (cases_eq (load_width i.op) 0) [
  | inl none ↦
      let wide : store_width i.op ≡ width_of i = omega arith in
      subst (λ (w : ℕ). slot_addr i % w ≡ 0) wide (m.stores (moves i.op t none)).aligned
  | inr some ↦
      let none = other-kind i.op some in
      let wide : load_width i.op ≡ width_of i = omega arith in
      subst (λ (w : ℕ). slot_addr i % w ≡ 0) wide (m.loads some).aligned
]

hart-passes : (s : Sharing) (shape : List (Option Window)) (h len n : ℕ) (i : Instr) → Shown s shape
    → IsRuledEmit s h len n i → is_access i.op ≡ true
    → may_access s.harts s.line s.part shape i h ≡ true
unfolding may_access
hart-passes s shape h len n i shown m t = elim (cases_eq (load_width i.op) 0) [
  | inl none ↦
      let some = moves i.op t none in
      rw none ((store-computed s shape h (slot_addr i) (store_width i.op) shown (store-wide i.op some)).1
      (m.stores some))
  | inr some ↦
      let test = lt-ltb 0 (load_width i.op) (omega arith) in
      rw test ((load-computed s shape h (slot_addr i) (load_width i.op) shown (load-wide i.op some)).1 (m.loads some))
]

-- a byte of a declared line lies in the declared lines of its window
stands-within : (s : Sharing) (b : ℕ) (v : Window) (j r : ℕ) → StandsAt s b v j r
    → within (window_at v.number) (v.lines * s.line) b ≡ true
stands-within s b v j r h =
    let rows : (j + 1) * s.line ≤ v.lines * s.line = mul-le-mul_right s.line (omega (arith, h.line)) in
    let low : window_at v.number ≤ b = omega (arith, h.place) in
    let high : b < window_at v.number + v.lines * s.line = omega (arith, h.place, h.byte, rows) in
    and_from _ _ (le-leb (window_at v.number) b low) (lt-ltb b (window_at v.number + v.lines * s.line) high)

place-passes : (s : Sharing) (i : Instr) (d : IsBased s i) → slot_addr i % width_of i ≡ 0
    → is_placed s.line (i.rs1 - 28) (width_of i) (slot_addr i) (Some d.window) ≡ true
place-passes s i d aligned =
    let inside = rw d.base at (stands-within s (slot_addr i) d.window d.line d.byte d.stands) in
    and_from _ _ (eq-eqb (slot_addr i % width_of i) 0 aligned) inside

access-passes : (s : Sharing) (shape : List (Option Window)) (topo : Topology) (whom : Selector) (len n : ℕ) (i : Instr)
    (h : ℕ) → Shown s shape → s.harts ≡ harts_of topo
    → ((k : ℕ) → k < harts_of topo → in_team topo whom k ≡ true → IsRuledEmit s k len n i) → IsRuledEmit s h len n i
    → first (access_checks s.line s.part shape topo whom i) ≡ None
access-passes s shape topo whom len n i h shown harts each m = elim (cases_Bool (is_access i.op)) [
  | inr f ↦ sym (access-none s.line s.part shape topo whom i f)
  | inl t ↦
      let d = m.place t in
      let there : get_or shape (i.rs1 - 28) None ≡ Some d.window =
      sym (shown.reads (i.rs1 - 28)) ∙ (sym (ap s.window d.base) ∙ d.stands.declared) in
      let on = place-passes s i d (access-aligned s h len n i m t) in
      let passes : (k : ℕ) → k < harts_of topo → in_team topo whom k
      && not (may_access (harts_of topo) s.line s.part shape i k) ≡ false =
      λ k less. elim (cases_Bool (in_team topo whom k)) [
        | inl among ↦ let may = rw harts at (hart-passes s shape k len n i shown (each k less among) t) in
            rw (among, may) refl
        | inr out ↦ rw out refl
      ] in
      sym (access-owned s.line s.part shape topo whom i d.window None t there on
      (team-none topo whom (λ k. not (may_access (harts_of topo) s.line s.part shape i k)) passes))
]

-- ---- a target

imm-above : (l : Layout) (i : Instr) → FitsAs l i → negsuc 1048575 ≤ℤ i.imm
imm-above R i h = omega (arith, ints, h.3)
imm-above I i h = omega (arith, ints, h.3.0)
imm-above S i h = omega (arith, ints, h.3.0)
imm-above B i h = omega (arith, ints, h.3.0)
imm-above U i h = omega (arith, ints, h.3.0)
imm-above J i h = h.3.0
imm-above Shift6 i h = omega (arith, ints, h.3.0)
imm-above Shift5 i h = omega (arith, ints, h.3.0)
imm-above Order i h = omega (arith, ints, h.3.0)
imm-above Whole i h = omega (arith, ints, h.3)

fits-above : (i : Instr) → Fits i → negsuc 1048575 ≤ℤ i.imm
unfolding Fits
fits-above i h = imm-above (row_of i.op).layout i h

forward-passes : (n len : ℕ) (z : ℤ) → len ≤ MOST_SLOTS → negsuc 1048575 ≤ℤ z → z ≤ℤ pos 1048575 → low 64 z % 4 ≡ 0
    → n < n + low 64 z / 4 → n + low 64 z / 4 ≤ len → is_forward n len z ≡ true
forward-passes n len (pos o) few above below whole ahead end =
    let small : o ≤ 1048575 = omega (arith, ints) in
    let same : o % 2 ^ 64 ≡ o = mod-eq_of_lt (omega arith) in
    let a : o % 4 ≡ 0 = rw same at whole in
    let b : n < n + o / 4 = rw same at ahead in
    let d : n + o / 4 ≤ len = rw same at end in
    let e = eq-eqb (o % 4) 0 a in
    let f = le-leb 4 o (omega arith) in
    let g = le-leb (n + o / 4) len d in
    rw (e, f, g) refl
forward-passes n len (negsuc k) few above below whole ahead end =
    let small : k ≤ 1048575 = omega (arith, ints) in
    let same : k % 2 ^ 64 ≡ k = mod-eq_of_lt (omega arith) in
    let d : n + (2 ^ 64 - 1 - k) / 4 ≤ len = rw same at end in
    absurd (omega arith)

target-passes : (s : Sharing) (h len n : ℕ) (i : Instr) → len ≤ MOST_SLOTS → IsRuledEmit s h len n i → target_fault n
    len i
    ≡ None
unfolding slot_target
target-passes s h len n i few m = elim (cases_Bool (is_jump i.op)) [
  | inl t ↦
      let to = m.target t in
      let on = forward-passes n len i.imm few (fits-above i m.fits) (fits-below i m.fits) (to.0) (to.1) (to.2) in
      rw (t, on) refl
  | inr f ↦ rw f refl
]

-- ---- a line

-- a line that each hart of a body with some hart may run has no fault
pub line-passes : (s : Sharing) (shape : List (Option Window)) (topo : Topology) (whom : Selector) (n len : ℕ)
    (text : List ℕ) → Shown s shape → s.harts ≡ harts_of topo → len ≤ MOST_SLOTS
    → HasHart topo whom → IsRuledLine s topo whom len n text → emit_fault s.line s.part shape topo whom n len text
    ≡ None
unfolding emit_fault
line-passes s shape topo whom n len text shown harts few some line =
    let i = line.instr in
    let m = line.each (some.0) (some.1) (some.2) in
    let read = line.read in
    let last = emit-target s.line s.part shape topo whom n len i
    (or_from _ _ m.allowed line.allowed) (registers-pass s (some.0) len n i m)
    (access-passes s shape topo whom len n i (some.0) shown harts line.each m) in
    rw read (sym last ∙ target-passes s (some.0) len n i few m)

-- ---- weights

any-found : (shape : List (Option Window)) (w : ℕ) (v : Window) → slice_get shape w ≡ Some (Some v)
    → list_any is_some shape ≡ true
any-found [] w v e = cc
any-found (Some u ∷ shape) w v e = refl
any-found (None ∷ shape) zero v e = cc
any-found (None ∷ shape) (suc w) v e = any-found shape w v e

-- ruled weights have no fault
pub weights-pass : (shape : List (Option Window)) (alu load store branch : ℕ)
    → AreRuledWeights shape alu load store branch → mix_fault shape alu load store branch ≡ None
unfolding mix_fault
weights-pass shape alu load store branch m =
    let a = le-leb 1 (alu + load + store + branch) m.some in
    let b = le-leb (alu + load + store + branch) MOST_WEIGHTS m.few in
    elim (cases_eq (load + store) 0) [
      | inl none ↦ rw (a, b, none) refl
      | inr some ↦
          let place = m.places some in
          let found = any-found shape (place.0) (place.1) (place.2) in
          let test = lt-ltb 0 (load + store) (omega arith) in
          rw (a, b, test, found) refl
    ]
