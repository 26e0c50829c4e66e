use Rattle.std.proofs.Common.{rules}
use Rattle.tm_turn.proofs.Turns.{waits}
use Rattle.tm_turn.proofs.line.turns.look.Goals as goal

pub load-requires : goal.load-requires
load-requires g c =
    let k = g.T.Kept in
    (search rules, search rules, waits k.maker k.history k.fixed _ _ _ c.args.ticket _ c.requires.waits)
