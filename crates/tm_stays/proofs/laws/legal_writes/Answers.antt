use Rattle.tm_stays.proofs.Turns.{stays-in-phase}
use Rattle.tm_stays.proofs.Right.{legal-right}
use Rattle.tm_stays.proofs.laws.legal_writes.Goals as goal

pub returns : goal.returns
returns c = record { phase = stays-in-phase c.args.program.now; writes = legal-right c.args.program.now }
