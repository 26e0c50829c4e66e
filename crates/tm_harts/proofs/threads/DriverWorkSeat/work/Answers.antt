use Rattle.std.proofs.Common.{◌∙◌, Some, ap}
use Rattle.tm_guest.specs.declared.turn.Turn.{Turn}
use Rattle.tm_harts.specs.Turns.{event_in}
use Rattle.tm_harts.proofs.Driving.{driven}
use Rattle.tm_harts.proofs.threads.DriverWorkSeat.work.Goals as goal

pub returns-then-held_back-ge-PATIENCE : goal.returns-then-held_back-ge-PATIENCE
returns-then-held_back-ge-PATIENCE g c =
    let i = c.loop.invariant in
    let e = c.turn.ensures in
    driven c.args.self.now.mill.now c.args.seat.now c.loop.seat c.turn.new.seat c.turn.result i.stays i.begins e.stays
    e.begins e.own e.turn (ap event_in c.in-None-turn.is)

pub returns-in-Some-Halted : goal.returns-in-Some-Halted
returns-in-Some-Halted g c =
    let i = c.loop.invariant in
    let e = c.turn.ensures in
    driven c.args.self.now.mill.now c.args.seat.now c.loop.seat c.turn.new.seat c.turn.result i.stays i.begins e.stays
    e.begins e.own e.turn
    (ap event_in (c.in-Some-Halted.is ∙ ap (λ (t : Turn). Some t) c.in-Some-Halted.field-0-is))

pub returns-in-Some-Full : goal.returns-in-Some-Full
returns-in-Some-Full g c =
    let i = c.loop.invariant in
    let e = c.turn.ensures in
    driven c.args.self.now.mill.now c.args.seat.now c.loop.seat c.turn.new.seat c.turn.result i.stays i.begins e.stays
    e.begins e.own e.turn
    (ap event_in (c.in-Some-Full.is ∙ ap (λ (t : Turn). Some t) c.in-Some-Full.field-0-is))
