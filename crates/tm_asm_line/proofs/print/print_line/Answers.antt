use Rattle.std.proofs.Common.{◌+◌, length, drop, get_or, arith, sym, ap, ◌∙◌, append_assoc, append-nil, length-append}
use Rattle.tm_asm_line.specs.Shapes.{name_of, shape_of, pieces_of}
use Rattle.tm_asm_line.specs.Printing.{printed, gap, piece_text, pieces_text}
use Rattle.tm_asm_line.specs.declared.shape.Slot.TheVariants.{Rd}
use Rattle.tm_asm_line.specs.declared.shape.Operand.TheVariants.{Register}
use Rattle.tm_asm_line.specs.declared.shape.Piece.TheVariants.{Take}
use Rattle.tm_asm_line.proofs.Printed.{line_back, printed_short, pieces_text-more, pieces_text-end}
use Rattle.tm_asm_line.proofs.print.print_line.Goals as goal

pub loop-piece-init : goal.loop-piece-init
unfolding printed
loop-piece-init c =
    let ps = pieces_of (shape_of c.args.i.op) in
    rw (
      c.append-2.ensures,
      c.append.ensures,
      c.new-line.ensures,
      c.gap.ensures.gap,
      c.name.ensures.name,
      c.pieces-pieces.ensures.pieces,
      c.shape_of.ensures,
    )
    (append_assoc (name_of c.args.i.op) (gap ps) (pieces_text ps c.args.i))

pub print_piece-requires : goal.print_piece-requires
print_piece-requires c =
    let ps = c.pieces-pieces.result.now in
    let k = c.loop-piece.piece-index in
    let d = Take (Register Rd) in
    let more = pieces_text-more ps k d c.args.i (omega arith) in
    let size = ap length c.loop-piece.invariant in
    let a = length-append c.loop-piece.line (pieces_text (drop k ps) c.args.i) in
    let b = ap length more ∙ length-append (piece_text (get_or ps k d) c.args.i)
    (pieces_text (drop (k + 1) ps) c.args.i) in
    let room = printed_short c.args.i c.requires in
    omega arith

pub loop-piece-preserved : goal.loop-piece-preserved
loop-piece-preserved c =
    let ps = c.pieces-pieces.result.now in
    let k = c.loop-piece.piece-index in
    let d = Take (Register Rd) in
    let more = pieces_text-more ps k d c.args.i (omega arith) in
    rw (c.print_piece.ensures, append_assoc, ← more) c.loop-piece.invariant

pub returns-clause-ok : goal.returns-clause-ok
returns-clause-ok c =
    let ps = c.pieces-pieces.result.now in
    let all = pieces_text-end ps c.loop-piece.piece-index c.args.i (omega arith) in
    let whole = sym (append-nil c.loop-piece.line) ∙ rw all at c.loop-piece.invariant in
    rw (← whole, ← c.as_slice.ensures) c.append-3.ensures.ok

pub returns-clause-reads_back : goal.returns-clause-reads_back
returns-clause-reads_back c = line_back c.args.i c.requires
