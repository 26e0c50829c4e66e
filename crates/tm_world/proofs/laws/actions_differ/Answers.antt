use Rattle.tm_world.proofs.Differing.{actions-differ}
use Rattle.tm_world.proofs.laws.actions_differ.Goals as goal

pub returns : goal.returns
returns c = actions-differ c.args.program.now
