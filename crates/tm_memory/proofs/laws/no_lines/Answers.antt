use Rattle.tm_memory.proofs.Keeping.{no-lines}
use Rattle.tm_memory.proofs.laws.no_lines.Goals as goal

pub returns : goal.returns
returns c = no-lines c.args.program.now
