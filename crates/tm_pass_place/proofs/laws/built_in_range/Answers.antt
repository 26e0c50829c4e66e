use Rattle.tm_pass_place.proofs.Range.{built-in_range}
use Rattle.tm_pass_place.proofs.laws.built_in_range.Goals as goal

pub returns : goal.returns
returns c = built-in_range c.args.cases.now c.args.masks.now
