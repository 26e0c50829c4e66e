use Rattle.std.proofs.Common.{rules}
use Rattle.tm_turn.proofs.Recording.{counts}
use Rattle.tm_turn.proofs.line.Line.count.Goals as goal

pub load-requires : goal.load-requires
load-requires g c = (search rules, search rules, counts g.T.Kept.maker g.T.Kept.history g.T.Kept.fixed _ _ _ _)
