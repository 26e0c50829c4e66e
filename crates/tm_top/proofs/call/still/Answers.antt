use Rattle.std.proofs.Common.{refl, true}
use Rattle.tm_words.specs.Words.{bytes_of_words}
use Rattle.tm_top_owed.specs.Changes.{desk_change, sink_change}
use Rattle.tm_top_owed.specs.Runs.{events_in}
use Rattle.tm_top_owed.specs.Owed.Ended.{done}
use Rattle.tm_top.proofs.Owing.{ended_stopped, owes}
use Rattle.tm_top.proofs.Words.{asks_for, asks_none, ended_words}
use Rattle.tm_top.proofs.call.still.Goals as goal

pub done_by-requires-clause-still : goal.done_by-requires-clause-still
done_by-requires-clause-still g c = c.in-Ok.ensures.still refl

pub returns-in-Err : goal.returns-in-Err
returns-in-Err g c = λ o ask.
    let words = bytes_of_words c.args.words.now in
    let desk = desk_change g.D.Desk.tells g.D.Desk.held g.D.Desk.faults c.args.desk.now c.args.desk.now in
    let out = sink_change g.O.Sink.tells g.O.Sink.taken g.O.Sink.faults c.args.out.now c.args.out.now in
    let err = sink_change g.E.Sink.tells g.E.Sink.taken g.E.Sink.faults c.args.err.now c.tell_words.new.err in
    owes o desk out err _ c.tell_words.result
    (ended_words c.in-Err.fault o desk out err c.tell_words.result
    (λ some. asks_none true words o ask (c.in-Err.ensures.refused some)) c.tell_words.ensures (λ told. refl)
    (λ told. refl))

pub returns-in-Ok-done_by : goal.returns-in-Ok-done_by
returns-in-Ok-done_by g c = λ o ask.
    let words = bytes_of_words c.args.words.now in
    owes o (desk_change g.D.Desk.tells g.D.Desk.held g.D.Desk.faults c.args.desk.now c.done_by.new.desk)
    (sink_change g.O.Sink.tells g.O.Sink.taken g.O.Sink.faults c.args.out.now c.done_by.new.out)
    (sink_change g.E.Sink.tells g.E.Sink.taken g.E.Sink.faults c.args.err.now c.args.err.now)
    (events_in c.in-Ok-done_by.outcome.journal) c.in-Ok-done_by.outcome.status
    (done c.in-Ok.command (asks_for true words o c.in-Ok.command ask c.in-Ok.ensures.asked c.in-Ok.ensures.only)
    c.in-Ok-done_by.ensures.done c.in-Ok-done_by.ensures.rest (λ told. refl))

pub returns : goal.returns
returns g c = λ o ask.
    let words = bytes_of_words c.args.words.now in
    let desk = desk_change g.D.Desk.tells g.D.Desk.held g.D.Desk.faults c.args.desk.now c.done_by.new.desk in
    let out = sink_change g.O.Sink.tells g.O.Sink.taken g.O.Sink.faults c.args.out.now c.done_by.new.out in
    let err = sink_change g.E.Sink.tells g.E.Sink.taken g.E.Sink.faults c.args.err.now c.tell_stop.new.err in
    owes o desk out err _ c.tell_stop.result
    (ended_stopped c.in-Err-done_by.stop o c.in-Ok.command desk out err c.tell_stop.result
    (asks_for true words o c.in-Ok.command ask c.in-Ok.ensures.asked c.in-Ok.ensures.only)
    c.in-Err-done_by.ensures.stopped c.in-Err-done_by.ensures.rest c.tell_stop.ensures)
