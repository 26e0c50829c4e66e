-- The instructions of which support code is made (RV64I 2.1), and the words of a list of them.
use Rattle.std.specs.Prelude.{ℕ, ◌-◌, pos, negsuc}
use Rattle.tm_table.specs.declared.instr.Instr.{Instr}
use Rattle.tm_table.specs.declared.instr.Op.TheVariants.{Addi, Slli, Add, Xor, And, Ld, Sd, Beq, Bne, Bltu, Jal, Jalr}
use Rattle.tm_table.specs.declared.instr.Op.TheVariants.{Fence}

-- rd = x[rs1] + n
abbrev pub addi : (rd rs1 n : ℕ) → Instr
addi rd rs1 n = record { op = Addi; rd = rd; rs1 = rs1; rs2 = 0; imm = pos n }

-- rd = x[rs1] shifted left by n
abbrev pub slli : (rd rs1 n : ℕ) → Instr
slli rd rs1 n = record { op = Slli; rd = rd; rs1 = rs1; rs2 = 0; imm = pos n }

-- rd = x[rs1] + x[rs2]
abbrev pub add : (rd rs1 rs2 : ℕ) → Instr
add rd rs1 rs2 = record { op = Add; rd = rd; rs1 = rs1; rs2 = rs2; imm = pos 0 }

-- rd = x[rs1] xor x[rs2], bit by bit
abbrev pub xor : (rd rs1 rs2 : ℕ) → Instr
xor rd rs1 rs2 = record { op = Xor; rd = rd; rs1 = rs1; rs2 = rs2; imm = pos 0 }

-- rd = x[rs1] and x[rs2], bit by bit
abbrev pub and : (rd rs1 rs2 : ℕ) → Instr
and rd rs1 rs2 = record { op = And; rd = rd; rs1 = rs1; rs2 = rs2; imm = pos 0 }

-- rd = the dword at x[base] + n
abbrev pub ld : (rd n base : ℕ) → Instr
ld rd n base = record { op = Ld; rd = rd; rs1 = base; rs2 = 0; imm = pos n }

-- the dword at x[base] + n = x[source]
abbrev pub sd : (source n base : ℕ) → Instr
sd source n base = record { op = Sd; rd = 0; rs1 = base; rs2 = source; imm = pos n }

-- n bytes on where x[rs1] and x[rs2] are equal
abbrev pub beq : (rs1 rs2 n : ℕ) → Instr
beq rs1 rs2 n = record { op = Beq; rd = 0; rs1 = rs1; rs2 = rs2; imm = pos n }

-- n bytes on where they differ
abbrev pub bne : (rs1 rs2 n : ℕ) → Instr
bne rs1 rs2 n = record { op = Bne; rd = 0; rs1 = rs1; rs2 = rs2; imm = pos n }

-- n bytes on
abbrev pub jump : ℕ → Instr
jump n = record { op = Jal; rd = 0; rs1 = 0; rs2 = 0; imm = pos n }

-- n bytes back, n at least 1
abbrev pub jump_back : ℕ → Instr
jump_back n = record { op = Jal; rd = 0; rs1 = 0; rs2 = 0; imm = negsuc (n - 1) }

-- rd = x[rs1] - n, n at least 1
abbrev pub subi : (rd rs1 n : ℕ) → Instr
subi rd rs1 n = record { op = Addi; rd = rd; rs1 = rs1; rs2 = 0; imm = negsuc (n - 1) }

-- n bytes back, n at least 1, where x[rs1] and x[rs2] differ
abbrev pub bne_back : (rs1 rs2 n : ℕ) → Instr
bne_back rs1 rs2 n = record { op = Bne; rd = 0; rs1 = rs1; rs2 = rs2; imm = negsuc (n - 1) }

-- n bytes back, n at least 1, where x[rs1] is less than x[rs2]
abbrev pub bltu_back : (rs1 rs2 n : ℕ) → Instr
bltu_back rs1 rs2 n = record { op = Bltu; rd = 0; rs1 = rs1; rs2 = rs2; imm = negsuc (n - 1) }

-- to the address in a register
abbrev pub go_to : ℕ → Instr
go_to rs1 = record { op = Jalr; rd = 0; rs1 = rs1; rs2 = 0; imm = pos 0 }

-- all reads and writes before come before all behind it (RV64I 2.7)
abbrev pub fence : Instr
fence = record { op = Fence; rd = 0; rs1 = 0; rs2 = 0; imm = pos 51 }
