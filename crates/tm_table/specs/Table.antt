-- The instruction table.
use Rattle.std.specs.Prelude.{ℕ, List, [], ◌∷◌, map}
use Rattle.tm_table.specs.declared.instr.Op.{Op}
use Rattle.tm_table.specs.declared.instr.Op.TheVariants.{Lui, Auipc, Jal, Jalr, Beq, Bne, Blt, Bge, Bltu, Bgeu, Lb}
use Rattle.tm_table.specs.declared.instr.Op.TheVariants.{Lh, Lw, Ld, Lbu, Lhu, Lwu, Sb, Sh, Sw, Sd, Addi, Slti, Sltiu}
use Rattle.tm_table.specs.declared.instr.Op.TheVariants.{Xori, Ori, Andi, Slli, Srli, Srai, Add, Sll, Slt, Sltu, Xor}
use Rattle.tm_table.specs.declared.instr.Op.TheVariants.{Srl, Or, And, Sub, Sra, Addiw, Slliw, Srliw, Sraiw, Addw}
use Rattle.tm_table.specs.declared.instr.Op.TheVariants.{Sllw, Srlw, Subw, Sraw, Fence, Ecall, Ebreak}
use Rattle.tm_table.specs.declared.instr.Op.TheVariants.{Mul, Mulh, Mulhsu, Mulhu, Div, Divu, Rem, Remu}
use Rattle.tm_table.specs.declared.instr.Op.TheVariants.{Mulw, Divw, Divuw, Remw, Remuw}
use Rattle.tm_table.specs.declared.table.Layout.{Layout}
use Rattle.tm_table.specs.declared.table.Layout.TheVariants.{R, I, S, B, U, J, Shift6, Shift5, Order, Whole}
use Rattle.tm_table.specs.declared.table.Row.{Row}

-- a row of these parts (this project)
abbrev row : Op → Layout → ℕ → ℕ → ℕ → ℕ → Row
row op layout opcode funct3 funct6 extra = record {
  op = op;
  layout = layout;
  opcode = opcode;
  funct3 = funct3;
  funct6 = funct6;
  extra = extra;
}

-- The row of an op: layout, opcode, funct3, the upper six bits of funct7, and the lowest bit of funct7 where there are
-- two sources and a target, or what stands in rs2 of a word with no operands (RV64I 2.1 and M 2.0, instruction
-- listings).
abbrev pub row_of : Op → Row
row_of Lui = row Lui U 55 0 0 0
row_of Auipc = row Auipc U 23 0 0 0
row_of Jal = row Jal J 111 0 0 0
row_of Jalr = row Jalr I 103 0 0 0
row_of Beq = row Beq B 99 0 0 0
row_of Bne = row Bne B 99 1 0 0
row_of Blt = row Blt B 99 4 0 0
row_of Bge = row Bge B 99 5 0 0
row_of Bltu = row Bltu B 99 6 0 0
row_of Bgeu = row Bgeu B 99 7 0 0
row_of Lb = row Lb I 3 0 0 0
row_of Lh = row Lh I 3 1 0 0
row_of Lw = row Lw I 3 2 0 0
row_of Ld = row Ld I 3 3 0 0
row_of Lbu = row Lbu I 3 4 0 0
row_of Lhu = row Lhu I 3 5 0 0
row_of Lwu = row Lwu I 3 6 0 0
row_of Sb = row Sb S 35 0 0 0
row_of Sh = row Sh S 35 1 0 0
row_of Sw = row Sw S 35 2 0 0
row_of Sd = row Sd S 35 3 0 0
row_of Addi = row Addi I 19 0 0 0
row_of Slti = row Slti I 19 2 0 0
row_of Sltiu = row Sltiu I 19 3 0 0
row_of Xori = row Xori I 19 4 0 0
row_of Ori = row Ori I 19 6 0 0
row_of Andi = row Andi I 19 7 0 0
row_of Slli = row Slli Shift6 19 1 0 0
row_of Srli = row Srli Shift6 19 5 0 0
row_of Srai = row Srai Shift6 19 5 16 0
row_of Add = row Add R 51 0 0 0
row_of Sll = row Sll R 51 1 0 0
row_of Slt = row Slt R 51 2 0 0
row_of Sltu = row Sltu R 51 3 0 0
row_of Xor = row Xor R 51 4 0 0
row_of Srl = row Srl R 51 5 0 0
row_of Or = row Or R 51 6 0 0
row_of And = row And R 51 7 0 0
row_of Sub = row Sub R 51 0 16 0
row_of Sra = row Sra R 51 5 16 0
row_of Addiw = row Addiw I 27 0 0 0
row_of Slliw = row Slliw Shift5 27 1 0 0
row_of Srliw = row Srliw Shift5 27 5 0 0
row_of Sraiw = row Sraiw Shift5 27 5 16 0
row_of Addw = row Addw R 59 0 0 0
row_of Sllw = row Sllw R 59 1 0 0
row_of Srlw = row Srlw R 59 5 0 0
row_of Subw = row Subw R 59 0 16 0
row_of Sraw = row Sraw R 59 5 16 0
row_of Fence = row Fence Order 15 0 0 0
row_of Ecall = row Ecall Whole 115 0 0 0
row_of Ebreak = row Ebreak Whole 115 0 0 1
row_of Mul = row Mul R 51 0 0 1
row_of Mulh = row Mulh R 51 1 0 1
row_of Mulhsu = row Mulhsu R 51 2 0 1
row_of Mulhu = row Mulhu R 51 3 0 1
row_of Div = row Div R 51 4 0 1
row_of Divu = row Divu R 51 5 0 1
row_of Rem = row Rem R 51 6 0 1
row_of Remu = row Remu R 51 7 0 1
row_of Mulw = row Mulw R 59 0 0 1
row_of Divw = row Divw R 59 4 0 1
row_of Divuw = row Divuw R 59 5 0 1
row_of Remw = row Remw R 59 6 0 1
row_of Remuw = row Remuw R 59 7 0 1

-- the ops, in the table's order (this project)
abbrev pub ops : List Op
ops = Lui ∷ Auipc ∷ Jal ∷ Jalr ∷ Beq ∷ Bne ∷ Blt ∷ Bge ∷ Bltu ∷ Bgeu ∷ Lb ∷ Lh ∷ Lw ∷ Ld ∷ Lbu ∷ Lhu ∷ Lwu ∷ Sb ∷ Sh
    ∷ Sw ∷ Sd ∷ Addi ∷ Slti ∷ Sltiu ∷ Xori ∷ Ori ∷ Andi ∷ Slli ∷ Srli ∷ Srai ∷ Add ∷ Sll ∷ Slt ∷ Sltu ∷ Xor ∷ Srl
    ∷ Or ∷ And ∷ Sub ∷ Sra ∷ Addiw ∷ Slliw ∷ Srliw ∷ Sraiw ∷ Addw ∷ Sllw ∷ Srlw ∷ Subw ∷ Sraw ∷ Fence ∷ Ecall
    ∷ Ebreak ∷ Mul ∷ Mulh ∷ Mulhsu ∷ Mulhu ∷ Div ∷ Divu ∷ Rem ∷ Remu ∷ Mulw ∷ Divw ∷ Divuw ∷ Remw ∷ Remuw ∷ []

-- the rows of the instruction table (RV64I 2.1, M 2.0)
abbrev pub table : List Row
table = map row_of ops
