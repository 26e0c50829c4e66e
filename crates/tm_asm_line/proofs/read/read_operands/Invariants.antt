use Rattle.std.proofs.Common.{◌≡◌, ◌≤◌, drop, length}
use Rattle.tm_asm_line.specs.Shapes.{pieces_of, shape_of}
use Rattle.tm_asm_line.specs.Reading.{pieces_reading, bare}
use Rattle.tm_asm_line.proofs.read.read_operands.Given as goal

abbrev pub invariant-loop-piece : goal.invariant-loop-piece
invariant-loop-piece l = record {
  same : pieces_reading l.text (drop l.piece-index l.piece-items) l.place l.instr
      ≡ pieces_reading l.text (pieces_of (shape_of l.fn.op)) l.fn.at (bare l.fn.op);
  within : l.place ≤ length l.text;
}
