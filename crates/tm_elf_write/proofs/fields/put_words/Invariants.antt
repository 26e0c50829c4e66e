use Rattle.std.proofs.Common.{◌≡◌, ◌++◌, take}
use Rattle.tm_elf_write.specs.Elf.{text_bytes}
use Rattle.tm_elf_write.proofs.fields.put_words.Given as goal

abbrev pub invariant-loop-word : goal.invariant-loop-word
invariant-loop-word l = l.out ≡ l.initial.out ++ text_bytes (take l.word-index l.words)
