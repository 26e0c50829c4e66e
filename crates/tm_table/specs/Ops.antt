-- What kind of instruction an op is (RV64I 2.1).
use Rattle.std.specs.Prelude.{Bool, true, false}
use Rattle.tm_table.specs.declared.instr.Op.{Op}
use Rattle.tm_table.specs.declared.instr.Op.TheVariants.{Beq, Bne, Blt, Bge, Bltu, Bgeu}

-- one of the six branches, which go on or to their target as their registers say (RV64I 2.1)
abbrev pub is_branch : Op → Bool
is_branch Beq = true
is_branch Bne = true
is_branch Blt = true
is_branch Bge = true
is_branch Bltu = true
is_branch Bgeu = true
is_branch _ = false
