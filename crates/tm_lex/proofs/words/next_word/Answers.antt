use Rattle.std.proofs.Common.{◌+◌, ◌-◌, drop, length, length-drop, arith}
use Rattle.std.proofs.lemmas.List.{length-take}
use Rattle.tm_lex.proofs.WordLemmas.{next-none, next-some}
use Rattle.tm_lex.proofs.words.next_word.Goals as goal

pub returns-then-len-eq0 : goal.returns-then-len-eq0
returns-then-len-eq0 c = next-none c.args.bytes.now c.args.at c.gap_len.result c.word_len-len.result
    c.gap_len.ensures.len c.word_len-len.ensures.len c.if-len-eq0.true

pub returns-else-len-eq0 : goal.returns-else-len-eq0
returns-else-len-eq0 c =
    let rest = length-drop (c.args.at + c.gap_len.result) c.args.bytes.now in
    let size = length-take (length c.args.bytes.now - (c.args.at + c.gap_len.result))
    (drop (c.args.at + c.gap_len.result) c.args.bytes.now) in
    let gap_rest = length-drop c.args.at c.args.bytes.now in
    let gap_size = length-take (length c.args.bytes.now - c.args.at) (drop c.args.at c.args.bytes.now) in (
      next-some c.args.bytes.now c.args.at c.gap_len.result c.word_len-len.result c.gap_len.ensures.len
          c.word_len-len.ensures.len c.if-len-eq0.false,
      omega arith,
      omega (arith, c.if-len-eq0.false),
      omega (arith, c.gap_len.ensures.within, c.word_len-len.ensures.within),
    )
