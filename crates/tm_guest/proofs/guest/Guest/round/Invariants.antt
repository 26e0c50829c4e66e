use Rattle.tm_guest.proofs.Rounding.{InRound}
use Rattle.tm_guest.proofs.guest.Guest.round.Given as goal

abbrev pub invariant-loop-h : goal.invariant-loop-h
invariant-loop-h l = InRound l.fn.self l.h l.self
