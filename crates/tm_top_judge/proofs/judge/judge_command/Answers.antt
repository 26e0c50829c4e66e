use Rattle.std.proofs.Common.{None, refl}
use Rattle.tm_top_owed.specs.Changes.{desk_change, sink_change}
use Rattle.tm_words.specs.declared.command.Command.TheVariants as commands
use Rattle.tm_top_owed.specs.Owed.{status_judged}
use Rattle.tm_top_owed.proofs.Stops.{print_stopped}
use Rattle.tm_top_judge.proofs.Judging.{judged_of}
use Rattle.tm_top_judge.proofs.judge.judge_command.Goals as goal

pub returns-clause-stopped : goal.returns-clause-stopped
returns-clause-stopped g c =
    print_stopped c.in-Err-print_text.stop (commands.Judge c.args.judge.now)
    (desk_change g.D.Desk.tells g.D.Desk.held g.D.Desk.faults c.args.desk.now c.read_judgement.new.desk)
    (sink_change g.O.Sink.tells g.O.Sink.taken g.O.Sink.faults c.args.out.now c.print_text.new.out)
    (record { text = c.in-Ok-told.text; status = status_judged c.in-Ok.judgement; journal = None })
    (judged_of c.args.judge.now
    (desk_change g.D.Desk.tells g.D.Desk.held g.D.Desk.faults c.args.desk.now c.read_judgement.new.desk)
    c.in-Ok.judgement c.in-Ok-told.text (status_judged c.in-Ok.judgement) c.in-Ok.ensures.ok c.in-Ok-told.ensures.ok
    refl)
    c.in-Err-print_text.ensures.front c.in-Err-print_text.ensures.cause
