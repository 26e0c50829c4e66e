use Rattle.std.proofs.Common.{ℕ, Some, refl, sym, subst}
use Rattle.tm_words.specs.declared.command.Command.TheVariants as commands
use Rattle.tm_top_owed.specs.Changes.{desk_change, sink_change}
use Rattle.tm_top_owed.specs.Runs.{events_in}
use Rattle.tm_top_owed.proofs.Stops.{input_stopped}
use Rattle.tm_top_run.specs.Steps.{IsToldOf}
use Rattle.tm_top_run.proofs.Traces.{trace_of_run}
use Rattle.tm_top_run.proofs.Running.{run_as, in_round, stay_behind, all_stay, run_done, run_stopped}
use Rattle.tm_top_run.proofs.run.run_command.Goals as goal

pub finish-requires : goal.finish-requires
finish-requires g c =
    let program = c.in-Ok.inputs.image.program in
    trace_of_run program c.in-Ok.inputs.faults c.args.run.now.events c.in-Ok-simulate.simulated.journal.events
    c.in-Ok.ensures.sound c.in-Ok-simulate.ensures.told.simulated c.requires.few

pub returns-in-Ok-finish-clause-done : goal.returns-in-Ok-finish-clause-done
returns-in-Ok-finish-clause-done g c =
    let r = c.args.run.now in
    let program = c.in-Ok.inputs.image.program in
    let lines = c.in-Ok.inputs.faults in
    let told = c.in-Ok-simulate.simulated in
    let events = told.journal.events in
    let outcome = c.in-Ok-finish.outcome in
    let ended = c.in-Ok-finish.ensures in
    run_done r program lines events told.text outcome.status (events_in outcome.journal)
    (desk_change g.D.Desk.tells g.D.Desk.held g.D.Desk.faults c.args.desk.now c.finish.new.desk)
    (g.D.Desk.held c.read_inputs.new.desk) (g.D.Desk.faults c.read_inputs.new.desk)
    (sink_change g.O.Sink.tells g.O.Sink.taken g.O.Sink.faults c.args.out.now c.finish.new.out)
    c.in-Ok.ensures.on
    (run_as r program lines events told.text outcome.status (events_in outcome.journal)
    (subst (λ (s : ℕ). IsToldOf program lines r.events events told.text s) (sym ended.status)
    c.in-Ok-simulate.ensures.told)
    (in_round c.args.run.now.threads program lines c.args.run.now.events events c.requires.order
    c.in-Ok-simulate.ensures.order) ended.journal)
    ended.finished

pub returns-clause-stopped : goal.returns-clause-stopped
returns-clause-stopped g c =
    let r = c.args.run.now in
    let program = c.in-Ok.inputs.image.program in
    let lines = c.in-Ok.inputs.faults in
    let told = c.in-Ok-simulate.simulated in
    let events = told.journal.events in
    run_stopped c.in-Err-finish.stop r program lines events told.text told.status
    (desk_change g.D.Desk.tells g.D.Desk.held g.D.Desk.faults c.args.desk.now c.finish.new.desk)
    (g.D.Desk.held c.read_inputs.new.desk) (g.D.Desk.faults c.read_inputs.new.desk)
    (sink_change g.O.Sink.tells g.O.Sink.taken g.O.Sink.faults c.args.out.now c.finish.new.out)
    c.in-Ok.ensures.on
    (run_as r program lines events told.text told.status (Some events) c.in-Ok-simulate.ensures.told
    (in_round c.args.run.now.threads program lines c.args.run.now.events events c.requires.order
    c.in-Ok-simulate.ensures.order) refl)
    c.in-Ok.ensures.later c.in-Err-finish.ensures.stopped
