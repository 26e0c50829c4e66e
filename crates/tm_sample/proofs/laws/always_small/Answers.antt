use Rattle.tm_sample.proofs.Accepted.{asks}
use Rattle.tm_sample.proofs.laws.always_small.Goals as goal

pub returns : goal.returns
returns c = asks c.args.n
