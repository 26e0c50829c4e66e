use Rattle.tm_sound.proofs.Headline.{headline}
use Rattle.tm_sound.proofs.laws.headline.Goals as goal

pub returns : goal.returns
returns c = headline c.args.program.now
