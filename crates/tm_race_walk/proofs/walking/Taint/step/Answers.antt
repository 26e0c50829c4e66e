use Rattle.std.proofs.Common.{◌≡◌, ◌<◌, ◌⊎◌, ◌↔◌, ℕ, Option, IsTrue, true, nat_lt, refl, subst}
use Rattle.tm_plan_map.specs.Slots.{slot_addr, store_width, is_branch}
use Rattle.tm_race_walk.specs.Forward.{ReadsHeld, Raised, Turns}
use Rattle.tm_race_walk.specs.Slots.{plane_slot}
use Rattle.tm_race_walk.specs.Taints.{Holds}
use Rattle.tm_race_walk.proofs.OneSlot.{raised_as}
use Rattle.tm_race_walk.proofs.Moving.{moved-told, marks-as, turns-as, less-as}
use Rattle.tm_race_walk.proofs.walking.Taint.step.Goals as goal

pub returns : goal.returns
returns c =
    let old = c.args.self.now in
    let n = c.args.n in
    let i = c.args.i in
    let slot = plane_slot c.args.others.now c.args.own.now n i in
    let Reads : Type 0 = ReadsHeld slot (Holds old) in
    let marks : IsTrue c.marks_of-marks.result ↔ ((slot.races ≡ true) ⊎ (Reads ⊎ (n < old.steered))) =
    marks-as c.marks_of-marks.result c.loads_any.result c.reads-reads.result slot.races Reads (n < old.steered)
    c.marks_of-marks.ensures c.loads_any.ensures c.reads-reads.ensures in
    let turns : IsTrue c.turns-turns.result ↔ Turns slot n (Holds old) old.steered =
    turns-as c.turns-turns.result c.is_branch.result c.reads-reads.result (is_branch i.op) Reads (n < old.steered)
    c.turns-turns.ensures c.is_branch.ensures c.reads-reads.ensures in
    record {
      held = moved-told c.target_register.result old.regs c.overwritten-self.result c.args.own.now old.bytes
          c.stored.new.plane i.rd (slot_addr i) (store_width i.op)
          ((slot.races ≡ true) ⊎ (Reads ⊎ (n < old.steered))) (n < old.covered) c.marks_of-marks.result
          (nat_lt n old.covered) c.requires.result
          c.target_register.ensures c.overwritten-self.ensures c.stored.ensures marks (less-as n old.covered);
      steered = subst (λ (t : Option ℕ). Raised (Turns slot n (Holds old) old.steered) t old.steered
          c.raised-self.result) c.target_of-target.ensures
          (raised_as (IsTrue c.turns-turns.result) (Turns slot n (Holds old) old.steered) c.target_of-target.result
          old.steered c.raised-self.result turns c.raised-self.ensures);
      covered = subst (λ (t : Option ℕ). Raised (Unit {0}) t old.covered c.raised-self-2.result)
          c.target_of-target.ensures
          (raised_as (IsTrue true) (Unit {0}) c.target_of-target.result old.covered c.raised-self-2.result (
            (λ x. tt),
            (λ x. refl),
          ) c.raised-self-2.ensures);
    }
