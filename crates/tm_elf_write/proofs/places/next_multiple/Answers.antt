use Rattle.std.proofs.Math.Nat.{mul-mod_left}
use Rattle.tm_elf_write.proofs.places.next_multiple.Goals as goal

pub returns-clause-exact : goal.returns-clause-exact
returns-clause-exact c = mul-mod_left _ _
