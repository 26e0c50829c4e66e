-- The state of a hart, as numbers.
use Rattle.std.specs.Prelude.{ℕ, List}
use Rattle.tm_table.specs.declared.state.Cpu.{Cpu}

-- the program counter and the registers of one hart (RV64I 2.1)
pub record Hart : Type 0 where
  pub pc : ℕ
  pub x : List ℕ

-- what a `Cpu` holds (this project)
abbrev pub hart_of : Cpu → Hart
hart_of cpu = record { pc = cpu.pc; x = cpu.x }
