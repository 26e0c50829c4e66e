use Rattle.std.proofs.Common.{◌≡◌, ◌≢◌, length, arith, sym, ◌∙◌}
use Rattle.std.proofs.lemmas.Result.{err_from_is_err_and}
use Rattle.tm_asm_line.specs.Reading.{after_blanks}
use Rattle.tm_asm_line.specs.declared.shape.Slot.TheVariants.{Rd}
use Rattle.tm_asm_line.specs.declared.shape.Operand.TheVariants.{Register}
use Rattle.tm_asm_line.specs.declared.shape.Piece.TheVariants.{Take}
use Rattle.tm_asm_line.proofs.Cutting.{pieces-more, pieces-end, pieces-late}
use Rattle.tm_asm_line.proofs.read.read_operands.Goals as goal

pub returns-in_err-place : goal.returns-in_err-place
returns-in_err-place c =
    let p = err_from_is_err_and c.from_residual.result c.from_residual.ensures.1 in
    let more = pieces-more c.args.text.now c.pieces-piece-items.result.now c.loop-piece.piece-index c.loop-piece.place
    (Take (Register Rd)) c.loop-piece.instr (omega arith) in
    rw (p.1, p.2) (rw (
      ← c.loop-piece.invariant.same,
      more,
      ← c.after_blanks.ensures.place,
      ← c.in_err-place.ensures.reading,
    ))

pub loop-piece-preserved : goal.loop-piece-preserved
loop-piece-preserved c =
    let more = pieces-more c.args.text.now c.pieces-piece-items.result.now c.loop-piece.piece-index c.loop-piece.place
    (Take (Register Rd)) c.loop-piece.instr (omega arith) in
    record {
      same = rw (← c.loop-piece.invariant.same, more, ← c.after_blanks.ensures.place, ← c.in_ok-place.ensures.reading);
      within = c.in_ok-place.ensures.within;
    }

pub returns-then-end-text : goal.returns-then-end-text
returns-then-end-text c =
    let end : after_blanks c.args.text.now c.loop-piece.place ≡ length c.args.text.now =
    sym c.after_blanks-end.ensures.place ∙ c.if-end-text.true in
    rw (← c.loop-piece.invariant.same)
    (sym (pieces-end c.args.text.now c.pieces-piece-items.result.now c.loop-piece.piece-index c.loop-piece.place
    c.loop-piece.instr (omega arith) end))

pub returns : goal.returns
returns c =
    let late : after_blanks c.args.text.now c.loop-piece.place ≢ length c.args.text.now =
    rw c.after_blanks-end.ensures.place at c.if-end-text.false in
    rw (← c.loop-piece.invariant.same, c.wanted.ensures, c.after_blanks-end.ensures.place)
    (sym (pieces-late c.args.text.now c.pieces-piece-items.result.now c.loop-piece.piece-index c.loop-piece.place
    c.loop-piece.instr (omega arith) late))
