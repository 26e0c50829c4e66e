use Rattle.std.proofs.Common.{◌/◌, length, arith}
use Rattle.tm_elf.proofs.WordLemmas.{words_end}
use Rattle.tm_elf.proofs.read.read_words.Goals as goal

pub returns : goal.returns
returns c = words_end c.args.bytes.now c.loop-index.words _ (length c.args.bytes.now / 4) c.loop-index.index
    (omega arith) c.loop-index.invariant
