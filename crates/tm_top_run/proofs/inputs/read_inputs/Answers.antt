use Rattle.tm_top_owed.specs.Changes.{desk_change}
use Rattle.tm_top_owed.proofs.Images.{run_stop}
use Rattle.tm_top_run.proofs.Scripts.{run_on, script_stop}
use Rattle.tm_top_run.proofs.inputs.read_inputs.Goals as goal

pub returns-in-Err-clause-cause : goal.returns-in-Err-clause-cause
returns-in-Err-clause-cause g c =
    run_stop c.in-Err.stop c.args.run.now
    (desk_change g.D.Desk.tells g.D.Desk.held g.D.Desk.faults c.args.desk.now c.open_input.new.desk)
    (rw c.as_str.ensures at c.in-Err.ensures.cause)

pub returns-in-Ok-read_script-clause-on : goal.returns-in-Ok-read_script-clause-on
returns-in-Ok-read_script-clause-on g c =
    run_on c.args.run.now c.in-Ok.image.program c.in-Ok.image.seed c.in-Ok-read_script.faults g.D.Desk.tells
    (g.D.Desk.held c.args.desk.now) (g.D.Desk.held c.open_input.new.desk) (rw c.as_str.ensures at c.in-Ok.ensures.ok)
    c.in-Ok.ensures.unchanged c.in-Ok-read_script.ensures.ok

pub returns-in-Err-read_script-clause-cause : goal.returns-in-Err-read_script-clause-cause
returns-in-Err-read_script-clause-cause g c =
    script_stop c.in-Err-read_script.stop c.args.run.now c.in-Ok.image.program c.in-Ok.image.seed
    (desk_change g.D.Desk.tells g.D.Desk.held g.D.Desk.faults c.args.desk.now c.read_script.new.desk)
    (g.D.Desk.faults c.open_input.new.desk) (g.D.Desk.held c.open_input.new.desk)
    (rw c.as_str.ensures at c.in-Ok.ensures.ok) c.in-Ok.ensures.unchanged c.in-Ok.ensures.later
    c.in-Err-read_script.ensures.cause
