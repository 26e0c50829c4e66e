use Rattle.std.proofs.Common.{◌≡◌, ◌++◌, take}
use Rattle.tm_elf_write.specs.Sections.{sections_bytes}
use Rattle.tm_elf_write.proofs.sections.put_rows.Given as goal

abbrev pub invariant-loop-row : goal.invariant-loop-row
invariant-loop-row l = l.out ≡ l.initial.out ++ sections_bytes (take l.row-index l.rows)
