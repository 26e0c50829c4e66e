use Rattle.tm_blocks_move.proofs.Places.{fits_in}
use Rattle.tm_blocks_move.proofs.laws.worlds.Goals as goal

pub returns : goal.returns
returns c = λ h. fits_in c.args.program.now h
