use Rattle.std.proofs.Common.{◌≡◌, ◌++◌, take}
use Rattle.tm_elf_write.specs.Segments.{segments_bytes}
use Rattle.tm_elf_write.proofs.segments.put_rows.Given as goal

abbrev pub invariant-loop-row : goal.invariant-loop-row
invariant-loop-row l = l.out ≡ l.initial.out ++ segments_bytes (take l.row-index l.rows)
