use Rattle.tm_pass_steps.proofs.Collecting.{pass-collected}
use Rattle.tm_pass_steps.proofs.laws.pass_is_collected.Goals as goal

pub returns : goal.returns
returns c = pass-collected c.args.program.now
