use Rattle.tm_runs.proofs.Half.{half-runs}
use Rattle.tm_runs.proofs.laws.half_runs.Goals as goal

pub returns : goal.returns
returns c = half-runs c.args.program.now
