use Rattle.std.proofs.Common.{◌≡◌, ◌-◌}
use Rattle.tm_elf.specs.SymbolTable.{symbols_from}
use Rattle.tm_elf.proofs.SymbolLemmas.{prepend}
use Rattle.tm_elf.proofs.symbols.read_entries.Given as goal

abbrev pub invariant-loop-index : goal.invariant-loop-index
invariant-loop-index l = prepend l.symbols (symbols_from l.table l.strings (l.count - l.index) l.index)
    ≡ symbols_from l.table l.strings (l.count - 1) 1
