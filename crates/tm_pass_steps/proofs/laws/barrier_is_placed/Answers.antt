use Rattle.tm_pass_steps.proofs.Building.{barrier-placed}
use Rattle.tm_pass_steps.proofs.laws.barrier_is_placed.Goals as goal

pub returns : goal.returns
returns c = barrier-placed c.args.program.now
