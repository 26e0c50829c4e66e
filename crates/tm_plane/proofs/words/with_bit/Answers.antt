use Rattle.tm_plane.proofs.WordLemmas.{with-one}
use Rattle.tm_plane.proofs.words.with_bit.Goals as goal

pub returns : goal.returns
returns c = with-one c.args.word c.args.k c.requires
