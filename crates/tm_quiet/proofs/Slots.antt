-- The slots of a stream, by their instructions.
use Rattle.std.proofs.Common.{◌≡◌, ◌≢◌, ℕ, ◌*◌, ◌<◌, ◌≤◌, List, [], ◌∷◌, length, Bool, true, false, ◌&&◌, not, ◌==◌}
use Rattle.std.proofs.Common.{Option, None, Some, ◌⊎◌, inl, inr, refl, sym, ap, ◌∙◌, subst, arith, ne_eqb, eq-eqb}
use Rattle.std.specs.Prelude.{Contains, slice_get, if◌then◌else◌}
use Rattle.std.proofs.lemmas.Bool.{and_parts, and_from, not-true, true≢false}
use Rattle.std.proofs.lemmas.List.Elements.{Contains-append_left, Contains-append_right, Contains-append_cases}
use Rattle.tm_table.specs.declared.instr.Instr.{Instr}
use Rattle.tm_plan_cases.specs.declared.cases.Cases.{Cases}
use Rattle.tm_plan_cases.specs.declared.cases.Stream.{Stream}
use Rattle.tm_plan_map.specs.Map.{windows_base, window_at, within}
use Rattle.tm_plan_cases.specs.Collected.{is_declared}
use Rattle.tm_plan_map.specs.Slots.{instr_of, load_width, store_width, is_jump, slot_addr, slot_target, stores_to}
use Rattle.tm_plan_cases.specs.Shaped.{AreShaped, IsShapedSlot}
use Rattle.tm_world.specs.Lists.{those}
use Rattle.tm_world.specs.Writers.{may_store}
use Rattle.tm_plan_cases.specs.Streams.{stream_in}
use Rattle.tm_world.specs.Slots.{named, another_may_store, is_own_byte, load_bytes, store_bytes, slot_of}
use Rattle.tm_world.specs.Slots.{slot_or_none, word_slot, words_slots, slots_in}
use Rattle.tm_world.proofs.Streams.{shaped-stream}
use Rattle.tm_plan_map.proofs.Within.{within-parts}
use Rattle.tm_plan_map.proofs.Within.{within-true}
use Rattle.tm_stays.proofs.Dwords.{lies}
use Rattle.tm_quiet.specs.Walks.{IsForward}
use Rattle.tm_quiet.proofs.Lists.{cons-cases, first-in, none-in, range-to, range-in, those-to, those-from, any-each}

-- a shared byte that no other hart may write
abbrev pub is_calm : Cases → ℕ → ℕ → ℕ → Bool
is_calm cases c h b = is_declared cases b && not (another_may_store cases c h b)

pub slot-is : (cases : Cases) (c h n w : ℕ) (stream : Stream) (i : Instr) → stream_in cases c h ≡ Some stream
    → slice_get stream.words n ≡ Some w → instr_of w ≡ Some i → slots_in cases c h n ≡ slot_of cases c h n i
unfolding slots_in
slot-is cases c h n w stream i e f g = ap (λ (o : Option Stream). words_slots cases c h o n) e ∙
    (ap (word_slot cases c h n) f ∙ ap (slot_or_none cases c h n) g)

-- each branch and JAL goes forward
pub forward : (cases : Cases) (c h : ℕ) (stream : Stream) → AreShaped cases → stream_in cases c h ≡ Some stream
    → IsForward (slots_in cases c h)
unfolding slots_in
forward cases c h stream shaped is n t e = by (slice_get stream.words n) refl
  where
    at : (word_slot cases c h n (slice_get stream.words n)).target ≡ Some t
    at = ap (λ (o : Option Stream). (words_slots cases c h o n).target) (sym is) ∙ e

    to : (i : Instr) → IsShapedSlot cases (length stream.words) n i → (b : Bool) → is_jump i.op ≡ b
        → (if b then Some (slot_target n i) else None) ≡ Some t → n < t
    to i s false j f = cc
    to i s true j f = let same : slot_target n i ≡ t = cc in subst (λ (z : ℕ). n < z) same (s.target j).1

    by : (o : Option ℕ) → slice_get stream.words n ≡ o → n < t
    by None q = let f : None ≡ Some t = ap (λ (o : Option ℕ). (word_slot cases c h n o).target) (sym q) ∙ at in cc
    by (Some w) q =
        let slot = (shaped-stream cases c h stream shaped is).slots n w q in
        let f : (slot_or_none cases c h n (instr_of w)).target ≡ Some t =
        ap (λ (o : Option ℕ). (word_slot cases c h n o).target) (sym q) ∙ at in
        to slot.0 slot.2 (is_jump slot.0.op) refl (ap (λ (o : Option Instr). (slot_or_none cases c h n o).target)
        (sym slot.1) ∙ f)

-- ---- shared bytes are no registers

pub declared-high : (cases : Cases) (b : ℕ) → AreShaped cases → is_declared cases b ≡ true → 32 ≤ b
unfolding windows_base window_at
declared-high cases b shaped e =
    let l = lies cases b shaped e in
    let q = within-parts (window_at l.window.number) (l.window.lines * cases.line) b l.holds in
    omega (arith, q)

pub calm-parts : (cases : Cases) (c h b : ℕ) → is_calm cases c h b ≡ true → (is_declared cases b ≡ true)
    × (another_may_store cases c h b ≡ false)
calm-parts cases c h b e = let q = and_parts (is_declared cases b) (not (another_may_store cases c h b)) e in
    (q.0, not-true (another_may_store cases c h b) q.1)

-- ---- what a slot reads and writes

module _ (cases : Cases) (c h n : ℕ) (i : Instr) where
  named-in : (r : ℕ) (rs : List ℕ) → r ≢ 0 → Contains rs r → Contains (named rs) r
  named-in r rs d k = those-from (λ q. not (q == 0)) rs r k (ap not (ne_eqb r 0 d))

  pub reads-first : i.rs1 ≢ 0 → Contains (slot_of cases c h n i).reads i.rs1
  reads-first d = Contains-append_left (named (i.rs1 ∷ i.rs2 ∷ [])) (load_bytes i) i.rs1
      (named-in i.rs1 (i.rs1 ∷ i.rs2 ∷ []) d (first-in i.rs1 (i.rs2 ∷ [])))

  pub reads-second : i.rs2 ≢ 0 → Contains (slot_of cases c h n i).reads i.rs2
  reads-second d = Contains-append_left (named (i.rs1 ∷ i.rs2 ∷ [])) (load_bytes i) i.rs2
      (named-in i.rs2 (i.rs1 ∷ i.rs2 ∷ []) d (let z = first-in i.rs2 [] in (1, omega arith, refl)))

  pub reads-byte : (b : ℕ) → within (slot_addr i) (load_width i.op) b ≡ true → Contains (slot_of cases c h n i).reads b
  reads-byte b e =
      let q = within-parts (slot_addr i) (load_width i.op) b e in
      Contains-append_right (named (i.rs1 ∷ i.rs2 ∷ [])) (load_bytes i) b
      (range-in (slot_addr i) (load_width i.op) b q.0 q.1)

  -- where it doesn't race, no other hart may write what it loads
  pub loads-calm : (slot_of cases c h n i).races ≡ false → (b : ℕ) → within (slot_addr i) (load_width i.op) b ≡ true
      → another_may_store cases c h b ≡ false
  loads-calm e b w = let q = within-parts (slot_addr i) (load_width i.op) b w in
      any-each (another_may_store cases c h) (load_bytes i) b e (range-in (slot_addr i) (load_width i.op) b q.0 q.1)

  pub writes-result : i.rd ≢ 0 → Contains (slot_of cases c h n i).writes i.rd
  writes-result d = Contains-append_left (named (i.rd ∷ [])) (those (is_own_byte cases c h) (store_bytes i)) i.rd
      (named-in i.rd (i.rd ∷ []) d (first-in i.rd []))

  pub writes-byte : (b : ℕ) → stores_to b i ≡ true → may_store cases c h b ≡ true → is_calm cases c h b ≡ true
      → Contains (slot_of cases c h n i).writes b
  unfolding stores_to
  writes-byte b e m k =
      let q = within-parts (slot_addr i) (store_width i.op) b e in
      let z = and_parts (is_declared cases b) (not (another_may_store cases c h b)) k in
      Contains-append_right (named (i.rd ∷ [])) (those (is_own_byte cases c h) (store_bytes i)) b
      (those-from (is_own_byte cases c h) (store_bytes i) b (range-in (slot_addr i) (store_width i.op) b q.0 q.1)
      (and_from (is_declared cases b) (may_store cases c h b && not (another_may_store cases c h b)) z.0
      (and_from (may_store cases c h b) (not (another_may_store cases c h b)) m z.1)))

  -- it writes its result, or a byte of its own that it stores to
  pub writes-cases : (r : ℕ) → Contains (slot_of cases c h n i).writes r → ((i.rd ≡ r) × (r ≢ 0))
      ⊎ ((stores_to r i ≡ true) × (is_calm cases c h r ≡ true))
  unfolding stores_to
  writes-cases r k = by (Contains-append_cases (named (i.rd ∷ [])) (those (is_own_byte cases c h) (store_bytes i)) r k)
    where
      by : Contains (named (i.rd ∷ [])) r ⊎ Contains (those (is_own_byte cases c h) (store_bytes i)) r
          → ((i.rd ≡ r) × (r ≢ 0)) ⊎ ((stores_to r i ≡ true) × (is_calm cases c h r ≡ true))
      by (inl a) =
          let q = those-to (λ q. not (q == 0)) (i.rd ∷ []) r a in
          let same : i.rd ≡ r = elim (cons-cases i.rd r [] q.0) [ inl e ↦ e | inr f ↦ absurd (none-in r f) ] in
          inl (same, λ z. true≢false (sym q.1 ∙ ap not (eq-eqb r 0 z)))
      by (inr a) =
          let q = those-to (is_own_byte cases c h) (store_bytes i) r a in
          let at = range-to (slot_addr i) (store_width i.op) r q.0 in
          let parts = and_parts (is_declared cases r) (may_store cases c h r && not (another_may_store cases c h r)) q.1
          in
          let more = and_parts (may_store cases c h r) (not (another_may_store cases c h r)) parts.1 in
          inr (
            within-true (slot_addr i) (store_width i.op) r at.0 at.1,
            and_from (is_declared cases r) (not (another_may_store cases c h r)) parts.0 more.1,
          )
