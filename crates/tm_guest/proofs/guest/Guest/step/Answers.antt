use Rattle.std.proofs.Common.{◌≡◌, ℕ, List, get_or, refl, set, sym, subst}
use Rattle.tm_table.specs.State.{Hart, hart_of}
use Rattle.tm_table.specs.Row.{row}
use Rattle.tm_world.specs.Kinds.{IsPossible}
use Rattle.tm_world.specs.Faulted.{Change}
use Rattle.tm_world.specs.Replay.{change_next}
use Rattle.tm_guest.specs.Guested.{steps}
use Rattle.tm_guest.specs.Making.{FitsOp, IsMade}
use Rattle.tm_guest.specs.Fields.{KeepsReplay}
use Rattle.tm_guest.specs.Waiting.{phase_after, signalled_after}
use Rattle.tm_guest.proofs.Stepping.{Acts, change-fits, state-shown, phase-shown, next-one, turned}
use Rattle.tm_guest.proofs.guest.Guest.step.Goals as goal

pub step-event-requires-clause-possible : goal.step-event-requires-clause-possible
step-event-requires-clause-possible c = λ read.
    let kept =
    state-shown c.args.self.now _ _ _ c.args.h _ _ _ _ c.index_mut-hart.result.now c.self.view_is c.self.invariant
    c.requires.below c.index_mut-hart.ensures.value in
    subst (λ (hart : Hart). IsPossible (row hart c.row-at.result.instr read).1) (sym kept.state)
    (c.row-at.ensures.possible read)

pub step-event-requires-clause-suits : goal.step-event-requires-clause-suits
step-event-requires-clause-suits c =
    subst (λ (x : Change). FitsOp x c.row-at.result.instr.op) (sym c.change-change.ensures)
    (change-fits c.args.self.now _ _ _ c.args.h _ _ _ _ c.row-at.result c.self.view_is c.self.invariant
    c.row-at.ensures)

pub step-event-requires-clause-room : goal.step-event-requires-clause-room
step-event-requires-clause-room c =
    phase-shown c.args.self.now _ _ _ c.args.h _ _ _ _ c.index_mut-hart.result.now c.self.view_is c.self.invariant
    c.requires.below c.index_mut-hart.ensures.value

pub invariant_of-self : goal.invariant_of-self
invariant_of-self c =
    let e = c.step-event.ensures in
    let held = c.self.inside in
    let h = c.args.h in
    let old = c.index_mut-hart.result.now in
    let new = c.step-event.new.self in
    let ram = c.step-event.new.ram in
    let event = c.step-event.result in
    let at = c.row-at.result in
    let kept =
    state-shown c.args.self.now _ _ _ h _ _ _ _ old c.self.view_is c.self.invariant c.requires.below
    c.index_mut-hart.ensures.value in
    let ch = change_next c.args.self.now.program c.args.self.now.faults (steps c.args.self.now) h in
    let acts : Acts ch h (hart_of old.cpu) at held.ram event (hart_of new.cpu) = record {
      hart = e.hart;
      pc = e.pc;
      word = e.word;
      made = subst (λ (x : Change). IsMade x (hart_of old.cpu) at.instr held.ram event.access (hart_of new.cpu))
          c.change-change.ensures e.made;
      shape = e.shape;
    } in
    let exits =
    subst (λ (marks : List ℕ). new.phase ≡ phase_after (get_or marks h 0) event.pc old.phase) c.as_slice.ensures
    e.phase in
    let flag =
    subst (λ (marks : List ℕ). new.signalled ≡ signalled_after (get_or marks h 0) h event old.signalled)
    c.as_slice.ensures e.signalled in
    subst (KeepsReplay held.program.now held.changes held.limit held.decodes.items (set held.harts.items h new) ram)
    (sym c.put.ensures)
    (turned c.args.self.now _ _ _ h _ _ _ _ c.self.view_is c.self.invariant c.requires.below c.requires.off_halt at
    c.row-at.ensures event (hart_of new.cpu)
    (subst (λ (hart : Hart). Acts ch h hart at held.ram event (hart_of new.cpu)) kept.state acts) old new ram
    c.requires.room c.index_mut-hart.ensures.value refl (record { exits = exits; flag = flag; memory = e.memory }))

pub returns-clause-next : goal.returns-clause-next
returns-clause-next c =
    let e = c.step-event.ensures in
    let h = c.args.h in
    let old = c.index_mut-hart.result.now in
    let next = hart_of c.step-event.new.self.cpu in
    let event = c.step-event.result in
    let at = c.row-at.result in
    let kept =
    state-shown c.args.self.now _ _ _ h _ _ _ _ old c.self.view_is c.self.invariant c.requires.below
    c.index_mut-hart.ensures.value in
    let ch = change_next c.args.self.now.program c.args.self.now.faults (steps c.args.self.now) h in
    let acts : Acts ch h (hart_of old.cpu) at c.self.inside.ram event next = record {
      hart = e.hart;
      pc = e.pc;
      word = e.word;
      made = subst (λ (x : Change). IsMade x (hart_of old.cpu) at.instr c.self.inside.ram event.access next)
          c.change-change.ensures e.made;
      shape = e.shape;
    } in
    next-one c.args.self.now _ _ _ h _ _ _ _ c.self.view_is c.self.invariant c.requires.below c.requires.off_halt at
    c.row-at.ensures event next (subst (λ (hart : Hart). Acts ch h hart at c.self.inside.ram event next) kept.state
    acts)
