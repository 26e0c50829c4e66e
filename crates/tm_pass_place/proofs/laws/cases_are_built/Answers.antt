use Rattle.tm_pass_place.proofs.Built.{cases-built}
use Rattle.tm_pass_place.proofs.laws.cases_are_built.Goals as goal

pub returns : goal.returns
returns c = cases-built c.args.cases.now c.args.masks.now
