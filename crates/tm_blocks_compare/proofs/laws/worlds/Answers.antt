use Rattle.tm_blocks_compare.proofs.Places.{comparing_in}
use Rattle.tm_blocks_compare.proofs.laws.worlds.Goals as goal

pub returns : goal.returns
returns c = λ h d. comparing_in c.args.program.now h d
