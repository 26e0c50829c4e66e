use Rattle.tm_top_owed.specs.Changes.{desk_change}
use Rattle.tm_top_judge.proofs.Judging.{trace_unread, trace_refused, trace_read}
use Rattle.tm_top_judge.proofs.trace.read_named.Goals as goal

pub returns-in-Err-clause-cause : goal.returns-in-Err-clause-cause
returns-in-Err-clause-cause g c =
    trace_unread c.in-Err.stop c.args.name.now
    (desk_change g.D.Desk.tells g.D.Desk.held g.D.Desk.faults c.args.desk.now c.read_input.new.desk)
    c.in-Err.ensures.cause

pub returns-in-Ok-trace_in-clause-ok : goal.returns-in-Ok-trace_in-clause-ok
returns-in-Ok-trace_in-clause-ok g c =
    trace_read c.args.name.now
    (desk_change g.D.Desk.tells g.D.Desk.held g.D.Desk.faults c.args.desk.now c.read_input.new.desk)
    c.in-Ok.text c.in-Ok-trace_in.trace.harts c.in-Ok-trace_in.trace.events.events
    c.in-Ok.ensures.whole c.in-Ok.ensures.within c.in-Ok-trace_in.ensures.ok

pub returns-clause-cause : goal.returns-clause-cause
returns-clause-cause g c =
    trace_refused c.in-Err-trace_in.stop c.args.name.now
    (desk_change g.D.Desk.tells g.D.Desk.held g.D.Desk.faults c.args.desk.now c.read_input.new.desk)
    c.in-Ok.text c.in-Ok.ensures.whole c.in-Ok.ensures.within c.in-Err-trace_in.ensures.err
