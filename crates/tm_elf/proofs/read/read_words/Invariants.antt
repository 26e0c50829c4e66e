use Rattle.std.proofs.Common.{◌≡◌, ◌++◌, ◌-◌, ◌*◌, ◌/◌, length}
use Rattle.tm_elf.specs.Read.{words_from}
use Rattle.tm_elf.proofs.read.read_words.Given as goal

abbrev pub invariant-loop-index : goal.invariant-loop-index
invariant-loop-index l = l.words ++ words_from l.bytes (length l.bytes / 4 - l.index) (4 * l.index)
    ≡ words_from l.bytes (length l.bytes / 4) 0
