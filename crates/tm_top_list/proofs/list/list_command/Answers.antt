use Rattle.std.proofs.Common.{None, refl}
use Rattle.tm_top_owed.specs.Changes.{desk_change, sink_change}
use Rattle.tm_words.specs.declared.command.Command.TheVariants as commands
use Rattle.tm_top_owed.proofs.Stops.{print_stopped}
use Rattle.tm_top_list.proofs.list.list_command.Goals as goal

pub returns-clause-stopped : goal.returns-clause-stopped
returns-clause-stopped g c =
    print_stopped c.in-Err-print_text.stop (commands.List c.args.image.now)
    (desk_change g.D.Desk.tells g.D.Desk.held g.D.Desk.faults c.args.desk.now c.read_listing.new.desk)
    (sink_change g.O.Sink.tells g.O.Sink.taken g.O.Sink.faults c.args.out.now c.print_text.new.out)
    (record { text = c.in-Ok.text; status = 0; journal = None }) (
      c.in-Ok.ensures.ok,
      (refl, refl),
    ) c.in-Err-print_text.ensures.front c.in-Err-print_text.ensures.cause
