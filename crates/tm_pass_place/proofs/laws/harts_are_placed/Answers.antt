use Rattle.tm_pass_place.proofs.Placed.{harts-placed}
use Rattle.tm_pass_place.proofs.laws.harts_are_placed.Goals as goal

pub returns : goal.returns
returns c = harts-placed c.args.program.now
