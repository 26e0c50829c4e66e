use Rattle.std.proofs.Common.{◌≡◌}
use Rattle.tm_barrier.specs.Words.{turn}
use Rattle.tm_blocks_code.proofs.Puts.{row_of}
use Rattle.tm_barrier.proofs.barrier.put_waits.Given as goal

abbrev pub invariant-loop-g : goal.invariant-loop-g
invariant-loop-g l = l.code ≡ row_of l.initial.code (turn l.h) 0 l.g
