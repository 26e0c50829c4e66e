use Rattle.std.proofs.Common.{◌≡◌}
use Rattle.tm_blocks_base.specs.Blocks.{copy_dword}
use Rattle.tm_blocks_code.proofs.Puts.{row_of}
use Rattle.tm_blocks_move.proofs.words.put_line.Given as goal

abbrev pub invariant-loop-j : goal.invariant-loop-j
invariant-loop-j l = l.code ≡ row_of l.initial.code (copy_dword l.from 0 l.to 0) 0 l.j
