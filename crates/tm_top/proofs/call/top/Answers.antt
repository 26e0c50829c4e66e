use Rattle.std.proofs.Common.{refl, false}
use Rattle.tm_words.specs.Words.{bytes_of_words}
use Rattle.tm_top_owed.specs.Changes.{desk_change, sink_change}
use Rattle.tm_top_owed.specs.Runs.{events_in}
use Rattle.tm_top_owed.specs.Owed.Ended.{done}
use Rattle.tm_top.proofs.Owing.{ended_stopped, owes}
use Rattle.tm_top.proofs.Words.{asks_for, asks_none, ended_words}
use Rattle.tm_top.proofs.call.top.Goals as goal

pub done_at-requires : goal.done_at-requires
done_at-requires g c = (c.type_bounds.sync-R, (c.type_bounds.sync-G, c.in-Ok.ensures.in_range))

pub returns-in-Err : goal.returns-in-Err
returns-in-Err g c = λ o ask.
    let words = bytes_of_words c.args.words.now in
    let desk = desk_change g.D.Desk.tells g.D.Desk.held g.D.Desk.faults c.args.desk.now c.args.desk.now in
    let out = sink_change g.O.Sink.tells g.O.Sink.taken g.O.Sink.faults c.args.out.now c.args.out.now in
    let err = sink_change g.E.Sink.tells g.E.Sink.taken g.E.Sink.faults c.args.err.now c.tell_words.new.err in
    owes o desk out err _ c.tell_words.result
    (ended_words c.in-Err.fault o desk out err c.tell_words.result
    (λ some. asks_none false words o ask (c.in-Err.ensures.refused some)) c.tell_words.ensures (λ told. refl)
    (λ told. refl))

pub returns-in-Ok-done_at : goal.returns-in-Ok-done_at
returns-in-Ok-done_at g c = λ o ask.
    let words = bytes_of_words c.args.words.now in
    owes o (desk_change g.D.Desk.tells g.D.Desk.held g.D.Desk.faults c.args.desk.now c.done_at.new.desk)
    (sink_change g.O.Sink.tells g.O.Sink.taken g.O.Sink.faults c.args.out.now c.done_at.new.out)
    (sink_change g.E.Sink.tells g.E.Sink.taken g.E.Sink.faults c.args.err.now c.args.err.now)
    (events_in c.in-Ok-done_at.outcome.journal) c.in-Ok-done_at.outcome.status
    (done c.in-Ok.command (asks_for false words o c.in-Ok.command ask c.in-Ok.ensures.asked c.in-Ok.ensures.only)
    c.in-Ok-done_at.ensures.done c.in-Ok-done_at.ensures.rest (λ told. refl))

pub returns : goal.returns
returns g c = λ o ask.
    let words = bytes_of_words c.args.words.now in
    let desk = desk_change g.D.Desk.tells g.D.Desk.held g.D.Desk.faults c.args.desk.now c.done_at.new.desk in
    let out = sink_change g.O.Sink.tells g.O.Sink.taken g.O.Sink.faults c.args.out.now c.done_at.new.out in
    let err = sink_change g.E.Sink.tells g.E.Sink.taken g.E.Sink.faults c.args.err.now c.tell_stop.new.err in
    owes o desk out err _ c.tell_stop.result
    (ended_stopped c.in-Err-done_at.stop o c.in-Ok.command desk out err c.tell_stop.result
    (asks_for false words o c.in-Ok.command ask c.in-Ok.ensures.asked c.in-Ok.ensures.only)
    c.in-Err-done_at.ensures.stopped c.in-Err-done_at.ensures.rest c.tell_stop.ensures)
