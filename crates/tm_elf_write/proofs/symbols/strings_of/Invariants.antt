use Rattle.std.proofs.Common.{◌≡◌, ◌≤◌, ◌+◌, ◌*◌, take, length}
use Rattle.tm_elf_write.specs.Symbols.{string_bytes}
use Rattle.tm_elf_write.proofs.symbols.strings_of.Given as goal

abbrev pub invariant-loop-s : goal.invariant-loop-s
invariant-loop-s l = record {
  bytes : l.out ≡ string_bytes (take l.s-index l.symbols);
  short : length l.out ≤ 33 * l.s-index + 1;
}
