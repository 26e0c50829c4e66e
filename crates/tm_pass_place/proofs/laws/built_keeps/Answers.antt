use Rattle.tm_pass_place.proofs.Sound.{built-keeps}
use Rattle.tm_pass_place.proofs.laws.built_keeps.Goals as goal

pub returns : goal.returns
returns c = built-keeps c.args.program.now
