use Rattle.tm_plane.proofs.WordLemmas.{bit-without}
use Rattle.tm_plane.proofs.words.word_without.Goals as goal

pub returns : goal.returns
returns c = λ r. bit-without c.args.x c.args.y r c.ranges.x.fits c.ranges.y.fits
