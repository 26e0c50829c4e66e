use Rattle.std.proofs.Common.{◌≡◌, ◌++◌}
use Rattle.tm_elf_write.specs.Fields.{zeros}
use Rattle.tm_elf_write.proofs.fields.put_zeros.Given as goal

abbrev pub invariant-loop : goal.invariant-loop
invariant-loop l = l.out ≡ l.initial.out ++ zeros l.counter
