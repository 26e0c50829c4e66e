use Rattle.std.proofs.Common.{◌≡◌, ◌++◌, take}
use Rattle.tm_elf_write.specs.Fields.{bytes_of}
use Rattle.tm_elf_write.proofs.fields.put_fields.Given as goal

abbrev pub invariant-loop-field : goal.invariant-loop-field
invariant-loop-field l = l.out ≡ l.initial.out ++ bytes_of (take l.field-index l.fields)
