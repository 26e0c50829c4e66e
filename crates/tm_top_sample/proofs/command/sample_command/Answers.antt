use Rattle.std.proofs.Common.{Some}
use Rattle.tm_words.specs.declared.command.Command.TheVariants as commands
use Rattle.tm_top_owed.specs.Changes.{sink_change}
use Rattle.tm_top_owed.proofs.Stops.{print_stopped}
use Rattle.tm_top_sample.proofs.Running.{sample_of}
use Rattle.tm_top_sample.proofs.command.sample_command.Goals as goal

pub returns-clause-stopped : goal.returns-clause-stopped
returns-clause-stopped g c = λ desk stay.
    let s = c.in-Ok-simulated.simulated in
    print_stopped c.in-Err-print_simulated.stop (commands.Sample c.args.n) desk
    (sink_change g.O.Sink.tells g.O.Sink.taken g.O.Sink.faults c.args.out.now c.print_simulated.new.out)
    (record { text = s.text; status = s.status; journal = Some s.journal.events })
    (sample_of c.args.n c.in-Ok.image.program c.in-Ok.image.file s.journal.events s.text s.status c.in-Ok.ensures.ok
    c.in-Ok-simulated.ensures)
    c.in-Err-print_simulated.ensures.front c.in-Err-print_simulated.ensures.cause
