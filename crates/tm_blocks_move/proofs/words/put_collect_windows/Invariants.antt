use Rattle.std.proofs.Common.{◌≡◌}
use Rattle.tm_blocks_move.specs.Lines.{collect_window}
use Rattle.tm_blocks_code.proofs.Puts.{row_of}
use Rattle.tm_blocks_move.proofs.words.put_collect_windows.Given as goal

abbrev pub invariant-loop-v : goal.invariant-loop-v
invariant-loop-v l = l.code ≡ row_of l.initial.code (collect_window l.cases l.h) 0 l.v
