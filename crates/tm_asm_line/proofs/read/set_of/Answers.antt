use Rattle.tm_asm_line.proofs.Cutting.{set-small}
use Rattle.tm_asm_line.proofs.read.set_of.Goals as goal

pub returns-clause-small : goal.returns-clause-small
returns-clause-small c = rw c.find_set.ensures (set-small c.args.text.now)
