use Rattle.std.proofs.Common.{◌≢◌, length, sym, ◌∙◌}
use Rattle.tm_asm_line.specs.Reading.{operand}
use Rattle.tm_asm_line.proofs.Cutting.{operand-is, operand-size, taken-none, taken-some}
use Rattle.tm_asm_line.proofs.read.take_operand.Goals as goal

pub returns-then-len-eq0-clause-reading : goal.returns-then-len-eq0-clause-reading
returns-then-len-eq0-clause-reading c =
    let size = operand-size c.args.text.now c.args.at c.operand_len-len.result c.operand_len-len.ensures.len in
    rw c.wanted.ensures (sym (taken-none c.args.operand c.args.text.now c.args.at c.args.instr
    (operand c.args.text.now c.args.at) (size ∙ c.if-len-eq0.true)))

pub returns-in-Ok-clause-reading : goal.returns-in-Ok-clause-reading
returns-in-Ok-clause-reading c =
    let size = operand-size c.args.text.now c.args.at c.operand_len-len.result c.operand_len-len.ensures.len in
    let cut = operand-is c.args.text.now c.args.at c.operand_len-len.result c.operand_len-len.ensures.len in
    let some : length (operand c.args.text.now c.args.at) ≢ 0 = rw size c.if-len-eq0.false in
    let read = rw cut at c.in-Ok.ensures in
    rw (
      taken-some c.args.operand c.args.text.now c.args.at c.args.instr (operand c.args.text.now c.args.at) some,
      ← read,
      size,
    )

pub returns-in-Err-clause-reading : goal.returns-in-Err-clause-reading
returns-in-Err-clause-reading c =
    let size = operand-size c.args.text.now c.args.at c.operand_len-len.result c.operand_len-len.ensures.len in
    let cut = operand-is c.args.text.now c.args.at c.operand_len-len.result c.operand_len-len.ensures.len in
    let some : length (operand c.args.text.now c.args.at) ≢ 0 = rw size c.if-len-eq0.false in
    let read = rw cut at c.in-Err.ensures in
    rw (
      taken-some c.args.operand c.args.text.now c.args.at c.args.instr (operand c.args.text.now c.args.at) some,
      ← read,
    )
