use Rattle.tm_turn.specs.History.{BeginsWith}
use Rattle.tm_harts.specs.Turns.{Stays}
use Rattle.tm_harts.proofs.threads.DriverWorkSeat.work.Given as goal

-- The seat is the mill's, with its number and told count, and has seen what it had.
abbrev pub invariant-loop : goal.invariant-loop
invariant-loop g l = record {
  stays : Stays l.mill.now l.initial.seat l.seat;
  begins : BeginsWith l.seat.seen l.initial.seat.seen;
}
