use Rattle.std.proofs.Common.{None, refl}
use Rattle.tm_words.specs.declared.command.Command.TheVariants as commands
use Rattle.tm_top_owed.specs.Changes.{desk_change, sink_change}
use Rattle.tm_refusals.specs.declared.role.Role.TheVariants as roles
use Rattle.tm_top_owed.proofs.Stops.{print_stopped, write_stopped}
use Rattle.tm_top_build.proofs.build.build_command.Goals as goal

pub returns-in-Err-write_output-clause-stopped : goal.returns-in-Err-write_output-clause-stopped
returns-in-Err-write_output-clause-stopped g c =
    write_stopped c.in-Err-write_output.stop (commands.Build c.args.b.now) roles.Output
    (desk_change g.D.Desk.tells g.D.Desk.held g.D.Desk.faults c.args.desk.now c.write_output.new.desk)
    (sink_change g.O.Sink.tells g.O.Sink.taken g.O.Sink.faults c.args.out.now c.args.out.now)
    (g.D.Desk.faults c.make_image.new.desk) refl c.in-Ok.ensures.later c.in-Err-write_output.ensures.cause
    c.in-Ok.ensures.ok.accepted (λ told. refl)

pub returns-clause-stopped : goal.returns-clause-stopped
returns-clause-stopped g c =
    print_stopped c.in-Err-print_text.stop (commands.Build c.args.b.now)
    (desk_change g.D.Desk.tells g.D.Desk.held g.D.Desk.faults c.args.desk.now c.write_output.new.desk)
    (sink_change g.O.Sink.tells g.O.Sink.taken g.O.Sink.faults c.args.out.now c.print_text.new.out)
    (record { text = c.in-Ok.made.line; status = 0; journal = None }) (
      (record {
        file = c.in-Ok.made.file;
        image = c.in-Ok.ensures.ok;
        written = rw c.as_str.ensures at
            c.in-Ok-write_output.ensures.written;
      }),
      (refl, refl),
    )
    c.in-Err-print_text.ensures.front c.in-Err-print_text.ensures.cause
