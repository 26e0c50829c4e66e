use Rattle.tm_memory.proofs.Next.{none-stuck, all-unstuck}
use Rattle.tm_memory.proofs.laws.unstuck.Goals as goal

pub returns : goal.returns
returns c = record { half = none-stuck c.args.program.now; runs = all-unstuck c.args.program.now }
