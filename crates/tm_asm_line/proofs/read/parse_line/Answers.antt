use Rattle.tm_asm_line.specs.Reading.{line_of}
use Rattle.tm_asm_line.proofs.Cutting.{name-is, name-size}
use Rattle.tm_asm_line.proofs.read.parse_line.Goals as goal

pub returns-in-Some : goal.returns-in-Some
unfolding line_of
returns-in-Some c =
    let text = c.args.text.now in
    let from = c.after_blanks-from.result in
    let size = name-size text from c.name_len-len.result c.name_len-len.ensures.len in
    let cut = name-is text from c.name_len-len.result c.name_len-len.ensures.len in
    let found = rw cut at c.in-Some.ensures in
    rw (← c.after_blanks-from.ensures.place, size, ← found, c.read_operands.ensures)

pub returns-in-None : goal.returns-in-None
unfolding line_of
returns-in-None c =
    let text = c.args.text.now in
    let from = c.after_blanks-from.result in
    let cut = name-is text from c.name_len-len.result c.name_len-len.ensures.len in
    let found = rw cut at c.in-None.ensures in
    rw (← c.after_blanks-from.ensures.place, ← found)
