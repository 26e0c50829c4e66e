use Rattle.std.proofs.Common.{ℕ, ◌<◌, refl, set, sym, ap, ◌∙◌, subst}
use Rattle.tm_table.specs.State.{Hart, hart_of}
use Rattle.tm_plan_cases.specs.declared.event.Event.{Event}
use Rattle.tm_plan_journal.specs.Journaled.{Journaled}
use Rattle.tm_buffer.specs.declared.hart.TheConstants.{BUFFER_WRITES}
use Rattle.tm_buffer.specs.Seen.{Seen, buffer, moments, with_event}
use Rattle.tm_buffer.specs.Fields.{KeepsStored}
use Rattle.tm_buffer.proofs.Buffers.{same-length}
use Rattle.tm_buffer.proofs.Storing.{stored-event, shown-event}
use Rattle.tm_buffer.proofs.Shown.{state-shown}
use Rattle.tm_buffer.proofs.Stepping.{Acts, turned}
use Rattle.tm_buffer.proofs.guest.BufferGuest.step.Goals as goal

pub queue-requires : goal.queue-requires
queue-requires c = λ w.
    let old = c.index_mut-hart.result.now in
    let kept =
    state-shown c.args.self.now _ _ _ _ _ _ _ c.self.view_is c.self.invariant.keeps c.args.h old c.requires.below
    c.index_mut-hart.ensures.value in
    subst (λ (n : ℕ). n < BUFFER_WRITES) (sym (same-length old.buffer.items (buffer c.args.self.now c.args.h) kept.buffer))
    (c.requires.space w)

pub invariant_of-self : goal.invariant_of-self
invariant_of-self c =
    let v = c.args.self.now in
    let h = c.args.h in
    let held = c.self.inside in
    let old = c.index_mut-hart.result.now in
    let new = c.queue.new.self in
    let kept =
    state-shown v _ _ _ _ _ _ _ c.self.view_is c.self.invariant.keeps h old c.requires.below c.index_mut-hart.ensures.value in
    let e : Event = record { hart = h; pc = old.cpu.pc; word = c.args.at.word; access = c.args.access } in
    let acts : Acts v.program (moments v) h c.args.at e (hart_of c.args.cpu) =
    record {
      hart = refl;
      pc = ap (λ (x : Hart). x.pc) kept.state;
      word = refl;
      step = c.requires.step;
      shape = c.requires.shape;
      reads = c.requires.reads;
      fence = c.requires.fence;
    } in
    let now =
    turned v _ _ h _ _ _ _ _ c.self.view_is c.self.invariant.keeps c.requires.below c.args.at e (hart_of c.args.cpu) old new
    c.len-place.result c.len-place.ensures c.requires.off_halt c.requires.row acts c.requires.room
    c.index_mut-hart.ensures.value (ap hart_of c.queue.ensures.cpu) c.queue.ensures.items in
    subst (λ (j : Journaled). KeepsStored held.program.now held.limit held.decodes.items (set held.harts.items h new)
    held.ram j held.drains) (sym c.put.ensures)
    (stored-event held.program.now held.limit held.decodes.items (set held.harts.items h new) held.ram held.journal
    held.drains e c.self.invariant.made now)

pub returns-clause-after : goal.returns-clause-after
returns-clause-after c =
    let held = c.self.inside in
    let e : Event = record {
      hart = c.args.h;
      pc = c.index_mut-hart.result.now.cpu.pc;
      word = c.args.at.word;
      access = c.args.access;
    } in
    shown-event held.program.now held.limit held.journal c.put.new.self held.drains e c.self.invariant.made c.put.ensures
    ∙ ap (λ (g : Seen). with_event g e) c.self.view_is

pub returns-clause-run : goal.returns-clause-run
returns-clause-run c = (invariant_of-self c).keeps.goes_on
