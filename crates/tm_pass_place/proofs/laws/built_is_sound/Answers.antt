use Rattle.tm_pass_place.proofs.Sound.{built-sound}
use Rattle.tm_pass_place.proofs.laws.built_is_sound.Goals as goal

pub returns : goal.returns
returns c = built-sound c.args.program.now
