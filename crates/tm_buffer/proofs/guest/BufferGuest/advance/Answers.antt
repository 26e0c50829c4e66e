use Rattle.std.proofs.Common.{◌<◌, length, sym, ap, ◌∙◌, arith}
use Rattle.std.proofs.lemmas.Bool.{false≢true}
use Rattle.tm_table.specs.State.{Hart}
use Rattle.tm_table.specs.Row.{row}
use Rattle.tm_world.specs.Run.{read_value}
use Rattle.tm_buffer.specs.Seen.{Seen}
use Rattle.tm_buffer.proofs.Draining.{fence-same, both-same, same-state, same-below, same-halted, same-room, same-row}
use Rattle.tm_buffer.proofs.Draining.{turn-longer}
use Rattle.tm_buffer.proofs.guest.BufferGuest.advance.Goals as goal

pub make-access-requires-clause-below : goal.make-access-requires-clause-below
make-access-requires-clause-below c =
    same-below c.args.self.now c.fence.new.self c.args.h
    (fence-same c.args.self.now c.fence.new.self c.args.h c.is_fence.result c.fence.ensures.after) c.requires

pub spare-requires : goal.spare-requires
spare-requires c =
    same-below c.args.self.now c.fence.new.self c.args.h
    (fence-same c.args.self.now c.fence.new.self c.args.h c.is_fence.result c.fence.ensures.after) c.requires

pub step-event-requires-clause-below : goal.step-event-requires-clause-below
step-event-requires-clause-below c =
    same-below c.args.self.now c.spare.new.self c.args.h
    (both-same c.args.self.now c.fence.new.self c.spare.new.self c.args.h c.is_fence.result c.make-access.result
    c.fence.ensures.after c.spare.ensures.after) c.requires

pub step-event-requires-clause-off_halt : goal.step-event-requires-clause-off_halt
step-event-requires-clause-off_halt c = λ halted.
    let same = both-same c.args.self.now c.fence.new.self c.spare.new.self c.args.h c.is_fence.result
    c.make-access.result c.fence.ensures.after c.spare.ensures.after in
    false≢true (c.if-halted.ensures.1 (same-halted c.args.self.now c.spare.new.self c.args.h same halted))

pub step-event-requires-clause-room : goal.step-event-requires-clause-room
step-event-requires-clause-room c =
    let same = both-same c.args.self.now c.fence.new.self c.spare.new.self c.args.h c.is_fence.result
    c.make-access.result c.fence.ensures.after c.spare.ensures.after in
    let journal = ap (λ (g : Seen). length g.journal) c.self.view_is in
    let limit = ap (λ (g : Seen). g.limit) c.self.view_is in
    let room : length c.args.self.now.journal < c.args.self.now.limit =
    omega (arith, c.self.invariant.keeps.within, c.if-place-self.false, c.len-place.ensures, journal, limit) in
    same-room c.args.self.now c.spare.new.self same room

pub step-event-requires-clause-row : goal.step-event-requires-clause-row
step-event-requires-clause-row c =
    same-row c.args.self.now c.spare.new.self c.args.h c.row-at.result
    (both-same c.args.self.now c.fence.new.self c.spare.new.self c.args.h c.is_fence.result c.make-access.result
    c.fence.ensures.after c.spare.ensures.after) c.row-at.ensures

pub step-event-requires-clause-step : goal.step-event-requires-clause-step
step-event-requires-clause-step c =
    let same = both-same c.args.self.now c.fence.new.self c.spare.new.self c.args.h c.is_fence.result
    c.make-access.result c.fence.ensures.after c.spare.ensures.after in
    ap (λ (x : Hart). row x c.row-at.result.instr (read_value c.make-access.result))
    (same-state c.args.self.now c.spare.new.self c.args.h same ∙ sym c.cpu.ensures) ∙ c.make-access.ensures.step

pub returns : goal.returns
returns c =
    let journal = ap (λ (g : Seen). length g.journal) c.self.view_is in
    let limit = ap (λ (g : Seen). g.limit) c.self.view_is in
    record {
      off_halt = λ halted. false≢true (c.if-halted.ensures.1 halted);
      room = omega (arith, c.self.invariant.keeps.within, c.if-place-self.false, c.len-place.ensures, journal, limit);
      at_end = c.len-place.ensures ∙ journal;
      hart = c.step-event.ensures.hart;
      longer = turn-longer c.args.self.now c.fence.new.self c.spare.new.self c.step-event.new.self c.args.h
          c.is_fence.result c.row-at.result c.make-access.result c.step-event.result c.fence.ensures.after
          c.is_fence.ensures c.row-at.ensures.decoded c.spare.ensures.after c.step-event.ensures.word
          c.step-event.ensures.access c.step-event.ensures.after;
      goes_on = c.step-event.ensures.run;
    }
