use Rattle.std.proofs.Common.{◌≡◌, ◌+◌, ◌-◌, ◌∷◌, [], suc, refl, length-append, arith}
use Rattle.std.proofs.lemmas.Result.{err_from_is_err_and}
use Rattle.tm_trace.specs.Reading.{events_from}
use Rattle.tm_trace.proofs.Going.{goes_on, fails, ends, behind_none}
use Rattle.tm_trace.proofs.read.read_events.Goals as goal

pub loop-place-init : goal.loop-place-init
loop-place-init c =
    let none = c.requires.none in
    let all : c.args.count - 0 ≡ c.args.count = omega arith in
    rw (none, all) (behind_none (events_from c.args.count c.args.harts 2 c.args.bytes.now), refl, refl, omega arith)

pub returns-in_err-event-clause-err : goal.returns-in_err-event-clause-err
returns-in_err-event-clause-err c =
    let p = err_from_is_err_and c.from_residual.result c.from_residual.ensures.1 in
    let left : c.args.count - c.loop-place.place ≡ suc (c.args.count - (c.loop-place.place + 1)) =
    omega (arith, c.loop-place-test.true) in
    rw (p.1, p.2) (fails _ c.loop-place.journal.events (c.args.count - c.loop-place.place)
    (c.args.count - (c.loop-place.place + 1)) c.args.harts (c.loop-place.place + 2) c.loop-place.rest.now _
    c.loop-place.invariant.0 left c.in_err-event.ensures.is)

pub put-requires : goal.put-requires
put-requires c =
    let count = c.loop-place.invariant.1 in
    let room = c.loop-place.invariant.2 in
    let left = c.loop-place.invariant.3 in
    let less = c.in_ok-event.ensures.less in
    omega (arith, count, room, left, less, c.requires.room, c.loop-place-test.true)

pub loop-place-preserved : goal.loop-place-preserved
loop-place-preserved c =
    let left : c.args.count - c.loop-place.place ≡ suc (c.args.count - (c.loop-place.place + 1)) =
    omega (arith, c.loop-place-test.true) in
    let count = c.loop-place.invariant.1 in
    let sum = length-append c.loop-place.journal.events (c.in_ok-event.event ∷ []) in
    rw c.put.ensures (
      goes_on _ c.loop-place.journal.events (c.args.count - c.loop-place.place)
          (c.args.count - (c.loop-place.place + 1)) c.args.harts (c.loop-place.place + 2) (c.loop-place.place + 1 + 2)
          c.loop-place.rest.now c.in_ok-event.event c.in_ok-event.behind.now c.loop-place.invariant.0 left (omega arith)
          c.in_ok-event.ensures.is,
      omega (arith, sum, count),
      c.loop-place.invariant.2,
      omega (arith, c.loop-place.invariant.3, c.in_ok-event.ensures.less),
    )

pub returns-clause-ok : goal.returns-clause-ok
returns-clause-ok c =
    ends _ c.loop-place.journal.events (c.args.count - c.loop-place.place) c.args.harts (c.loop-place.place + 2)
    c.loop-place.rest.now c.loop-place.invariant.0 (omega (arith, c.loop-place-test.false))
