-- A walk that stands at a slot stands behind it once it went over it.
use Rattle.std.proofs.Common.{◌≡◌, ◌≢◌, ℕ, ◌+◌, true, Some, List, length, sym, subst, ◌∙◌, arith}
use Rattle.std.specs.Prelude.{slice_get}
use Rattle.tm_table.specs.declared.instr.Instr.{Instr}
use Rattle.tm_plan_cases.specs.declared.cases.Case.{Case}
use Rattle.tm_plan_cases.specs.declared.cases.Stream.{Stream}
use Rattle.tm_plan_map.specs.Map.{within}
use Rattle.tm_plan_map.specs.Slots.{instr_of, store_width, slot_addr}
use Rattle.tm_plan_cases.specs.Collected.{is_declared}
use Rattle.tm_plan_cases.specs.Shaped.{IsShapedSlot}
use Rattle.tm_plan_map.proofs.Within.{within-parts}
use Rattle.tm_plan_cases.specs.declared.cases.Cases.{Cases}
use Rattle.tm_world.specs.Slots.{slots_in}
use Rattle.tm_plane.specs.Plane.{in_plane}
use Rattle.tm_race_walk.specs.declared.walking.Taint.{Taint}
use Rattle.tm_race_walk.specs.Forward.{Turns}
use Rattle.tm_race_walk.specs.Slots.{IsTracked, plane_slot}
use Rattle.tm_race_walk.specs.Shapes.{IsOfShaped, another_in, own_in}
use Rattle.tm_race_walk.specs.Taints.{Holds, Moved, StandsAt}
use Rattle.tm_race_walk.proofs.OneSlot.{forward_as}
use Rattle.tm_race_walk.proofs.Shaping.{accesses, store-sum, placed-declared, slot-at, tracked-at}
use Rattle.tm_race_walk.proofs.Telling.{slot-told, slots-at}

pub tracked-of : (case : Case) (h n w : ℕ) (stream : Stream) (i : Instr) → IsOfShaped case → slice_get case.streams h
    ≡ Some stream → slice_get stream.words n ≡ Some w → instr_of w ≡ Some i → IsTracked n i
tracked-of case h n w stream i os is there d = tracked-at os.cases os.c h case stream os.shaped os.at is n w i there d

-- the bytes that a slot stores are declared
stores-declared : (cases : Cases) (len n : ℕ) (i : Instr) → IsShapedSlot cases len n i → (b : ℕ)
    → within (slot_addr i) (store_width i.op) b ≡ true → is_declared cases b ≡ true
stores-declared cases len n i slot b t =
    let p = within-parts (slot_addr i) (store_width i.op) b t in
    let some : store_width i.op ≢ 0 = λ z. omega (arith, p.0, p.1) in
    let sum = store-sum i.op some in
    placed-declared cases i b (slot.place (accesses i.op (store_width i.op) some sum))
    (subst (λ (n : ℕ). within (slot_addr i) n b ≡ true) (sym sum) t)

pub forward-told : (case : Case) (h n w : ℕ) (others own : List ℕ) (stream : Stream) (i : Instr) (old new : Taint)
    → slice_get case.streams h ≡ Some stream
    → slice_get stream.words n ≡ Some w → instr_of w ≡ Some i → ((b : ℕ) → in_plane others b ≡ another_in case h b)
    → ((b : ℕ) → in_plane own b ≡ own_in case h b)
    → StandsAt case h n old → Moved (plane_slot others own n i) n old new → StandsAt case h (n + 1) new
forward-told case h n w others own stream i old new is there d f g s m = record {
  stands = λ cases c a at.
      let slot = slot-at cases c h case stream a at is n w i there d in
      let told : slots_in cases c h n ≡ plane_slot others own n i =
      slots-at cases c h case a at stream n w i is there d ∙ sym
      (slot-told cases c h case a at others own n i f g (stores-declared cases (length stream.words) n i slot)) in
      forward_as (slots_in cases c h) n (plane_slot others own n i) told (Holds old) old.steered old.covered
      (s.stands cases c a at) (Holds new) new.steered new.covered
      (Turns (plane_slot others own n i) n (Holds old) old.steered) (Unit {0}) m.held ((λ x. x), (λ x. x)) m.steered tt
      m.covered;
}
