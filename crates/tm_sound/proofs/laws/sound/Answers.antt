use Rattle.tm_sound.proofs.Sound.{sound}
use Rattle.tm_sound.proofs.laws.sound.Goals as goal

pub returns : goal.returns
returns c = sound c.args.program.now
