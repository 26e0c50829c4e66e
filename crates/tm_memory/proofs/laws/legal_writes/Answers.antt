use Rattle.tm_memory.proofs.Meets.{writes-right}
use Rattle.tm_memory.proofs.laws.legal_writes.Goals as goal

pub returns : goal.returns
returns c = writes-right c.args.program.now
