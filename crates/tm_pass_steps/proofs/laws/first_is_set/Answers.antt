use Rattle.tm_pass_steps.proofs.Setting.{first-set}
use Rattle.tm_pass_steps.proofs.laws.first_is_set.Goals as goal

pub returns : goal.returns
returns c = first-set c.args.program.now
