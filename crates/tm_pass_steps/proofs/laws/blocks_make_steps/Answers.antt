use Rattle.tm_pass_steps.proofs.Placed.{blocks-step}
use Rattle.tm_pass_steps.proofs.laws.blocks_make_steps.Goals as goal

pub returns : goal.returns
returns c = blocks-step c.args.program.now
