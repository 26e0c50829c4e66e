use Rattle.tm_top_owed.specs.Changes.{desk_change}
use Rattle.tm_top_owed.proofs.Images.{judge_stop}
use Rattle.tm_top_judge.proofs.Judging.{trace_stop, harts_stop, judgement_of}
use Rattle.tm_top_judge.proofs.judge.read_judgement.Goals as goal

pub returns-in-Err-clause-cause : goal.returns-in-Err-clause-cause
returns-in-Err-clause-cause g c =
    judge_stop c.in-Err.stop c.args.judge.now
    (desk_change g.D.Desk.tells g.D.Desk.held g.D.Desk.faults c.args.desk.now c.open_input.new.desk)
    (rw c.as_str.ensures at c.in-Err.ensures.cause)

pub returns-in-Err-read_named-clause-cause : goal.returns-in-Err-read_named-clause-cause
returns-in-Err-read_named-clause-cause g c =
    trace_stop c.in-Err-read_named.stop c.args.judge.now c.in-Ok.image.program c.in-Ok.image.seed
    (desk_change g.D.Desk.tells g.D.Desk.held g.D.Desk.faults c.args.desk.now c.read_named.new.desk)
    (g.D.Desk.faults c.open_input.new.desk) (g.D.Desk.held c.open_input.new.desk)
    (rw c.as_str.ensures at c.in-Ok.ensures.ok) c.in-Ok.ensures.unchanged c.in-Ok.ensures.later
    (rw c.as_str-2.ensures at c.in-Err-read_named.ensures.cause)

pub returns-in-Ok-judged-clause-ok : goal.returns-in-Ok-judged-clause-ok
returns-in-Ok-judged-clause-ok g c =
    judgement_of c.args.judge.now c.in-Ok.image.program c.in-Ok.image.seed g.D.Desk.tells
    (g.D.Desk.held c.args.desk.now)
    (g.D.Desk.held c.open_input.new.desk) c.in-Ok-read_named.trace.harts c.in-Ok-read_named.trace.events.events
    c.in-Ok-judged.judgement (rw c.as_str.ensures at c.in-Ok.ensures.ok) c.in-Ok.ensures.unchanged
    (rw c.as_str-2.ensures at c.in-Ok-read_named.ensures.ok) c.in-Ok-judged.ensures.ok

pub returns-clause-cause : goal.returns-clause-cause
returns-clause-cause g c =
    harts_stop c.in-Err-judged.stop c.args.judge.now c.in-Ok.image.program c.in-Ok.image.seed
    (desk_change g.D.Desk.tells g.D.Desk.held g.D.Desk.faults c.args.desk.now c.read_named.new.desk)
    (g.D.Desk.held c.open_input.new.desk) c.in-Ok-read_named.trace.harts c.in-Ok-read_named.trace.events.events
    (rw c.as_str.ensures at c.in-Ok.ensures.ok) c.in-Ok.ensures.unchanged
    (rw c.as_str-2.ensures at c.in-Ok-read_named.ensures.ok) c.in-Err-judged.ensures.err
