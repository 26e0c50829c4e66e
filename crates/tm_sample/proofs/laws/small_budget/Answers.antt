use Rattle.tm_sample.proofs.Small.{small-budget}
use Rattle.tm_sample.proofs.laws.small_budget.Goals as goal

pub returns : goal.returns
returns c = small-budget c.args.cases.now
