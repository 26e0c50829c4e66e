use Rattle.std.proofs.Common.{◌≡◌, ◌++◌, drop}
use Rattle.tm_asm_line.specs.Printing.{printed, pieces_text}
use Rattle.tm_asm_line.proofs.print.print_line.Given as goal

abbrev pub invariant-loop-piece : goal.invariant-loop-piece
invariant-loop-piece l = l.line ++ pieces_text (drop l.piece-index l.pieces) l.i ≡ printed l.i
