use Rattle.std.proofs.Common.{◌≡◌, ◌≤◌, ◌+◌, ◌*◌, ◌++◌, drop}
use Rattle.tm_elf_write.specs.Symbols.{symbol_bytes, entries}
use Rattle.tm_elf_write.proofs.symbols.symbols_of.Given as goal

abbrev pub invariant-loop-s : goal.invariant-loop-s
invariant-loop-s l = record {
  bytes : l.out ++ entries l.name (drop l.s-index l.symbols) ≡ symbol_bytes l.symbols;
  small : l.name ≤ 33 * l.s-index + 1;
}
