use Rattle.tm_legal.proofs.Half.{legal-runs, legal-steps}
use Rattle.tm_legal.proofs.laws.legal_half.Goals as goal

pub returns : goal.returns
returns c = record { runs = legal-runs c.args.program.now; steps = legal-steps c.args.program.now }
