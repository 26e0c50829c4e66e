use Rattle.std.proofs.Common.{ℕ, refl, subst, sym}
use Rattle.tm_table.specs.State.{Hart, hart_of}
use Rattle.tm_plan_cases.specs.declared.event.Event.{Event}
use Rattle.tm_world.specs.Faulted.{Change}
use Rattle.tm_world.specs.Replay.{change_next}
use Rattle.tm_guest.specs.Guested.{state, steps}
use Rattle.tm_guest.specs.Making.{FitsOp, IsMade}
use Rattle.tm_guest.proofs.Stepping.{Acts, change-fits, next-one}
use Rattle.tm_guest.proofs.guest.Guest.next_access.Goals as goal

pub next_access-requires-clause-suits : goal.next_access-requires-clause-suits
next_access-requires-clause-suits c =
    subst (λ (x : Change). FitsOp x c.row-at.result.instr.op) (sym c.change-change.ensures)
    (change-fits c.args.self.now _ _ _ c.args.h _ _ _ _ c.row-at.result c.self.view_is c.self.invariant
    c.row-at.ensures)

pub returns : goal.returns
returns c =
    let g = c.args.self.now in
    let h = c.args.h in
    let at = c.row-at.result in
    let ram = c.self.inside.ram in
    let cpu = c.cpu.result.now in
    let does = c.next_access.result in
    let (next, made) = c.next_access.ensures.made in
    let ch = change_next g.program g.faults (steps g) h in
    let event : ℕ → Event = λ pc. record { hart = h; pc = pc; word = at.word; access = does } in
    let acts : Acts ch h (hart_of cpu) at ram (event cpu.pc) next = record {
      hart = refl;
      pc = refl;
      word = refl;
      made = subst (λ (x : Change). IsMade x (hart_of cpu) at.instr ram does next) c.change-change.ensures made;
      shape = c.next_access.ensures.shape;
    } in
    let is = subst (λ (hart : Hart). Acts ch h hart at ram (event hart.pc) next) c.cpu.ensures acts in
    let one =
    next-one g _ _ _ h _ _ _ _ c.self.view_is c.self.invariant c.requires.below c.requires.off_halt at
    c.row-at.ensures (event (state g h).pc) next is in
    (event (state g h).pc, one, refl)
