use Rattle.std.proofs.Common.{length, drop}
use Rattle.tm_turn.proofs.line.turns.write_down.Given as goal

abbrev pub ghosts-record : goal.ghosts-record
ghosts-record g a = record { news = drop (length a.seat.now.me.0.seen) (g.T.Kept.history a.value.now) }
