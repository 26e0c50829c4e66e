-- Words and instructions.
use Rattle.std.specs.Prelude.{◌≡◌, ℕ, ◌+◌, ◌-◌, ◌*◌, ◌/◌, ◌%◌, ◌^◌, ◌<◌, ℤ, pos, negsuc, ◌≤ℤ◌, Bool, true, ◌&&◌}
use Rattle.std.specs.Prelude.{nat_lt, ◌==◌, List, map, Option, option_map, find, if◌then◌else◌}
use Rattle.tm_table.specs.declared.instr.Op.{Op}
use Rattle.tm_table.specs.declared.table.Layout.{Layout}
use Rattle.tm_table.specs.declared.table.Layout.TheVariants.{R, I, S, B, U, J, Shift6, Shift5, Order, Whole}
use Rattle.tm_table.specs.declared.table.Row.{Row}
use Rattle.tm_table.specs.declared.instr.Instr.{Instr}
use Rattle.tm_table.specs.declared.table.Fields.{Fields}
use Rattle.tm_table.specs.Table.{row_of, table}

-- ---- words and their parts

-- the parts of a word: opcode 6..0, rd 11..7, funct3 14..12, rs1 19..15, rs2 24..20, bit 25, and the
-- upper six bits of funct7, 31..26 (RV64I 2.1)
abbrev pub split : ℕ → Fields
split w = record {
  opcode = w % 2 ^ 7;
  rd = w / 2 ^ 7 % 2 ^ 5;
  funct3 = w / 2 ^ 12 % 2 ^ 3;
  rs1 = w / 2 ^ 15 % 2 ^ 5;
  rs2 = w / 2 ^ 20 % 2 ^ 5;
  bit25 = w / 2 ^ 25 % 2;
  funct6 = w / 2 ^ 26;
}

-- the word with these parts (RV64I 2.1)
abbrev pub join : Fields → ℕ
join f = f.opcode + f.rd * 2 ^ 7 + f.funct3 * 2 ^ 12 + f.rs1 * 2 ^ 15 + f.rs2 * 2 ^ 20 + f.bit25 * 2 ^ 25 + f.funct6
    * 2 ^ 26

-- each part has no more bits than its place in a word (RV64I 2.1)
pub record InRange (f : Fields) : Type 0 where
  pub opcode : f.opcode < 2 ^ 7
  pub rd : f.rd < 2 ^ 5
  pub funct3 : f.funct3 < 2 ^ 3
  pub rs1 : f.rs1 < 2 ^ 5
  pub rs2 : f.rs2 < 2 ^ 5
  pub bit25 : f.bit25 < 2
  pub funct6 : f.funct6 < 2 ^ 6

-- ---- immediates

-- the lowest k bits of z in two's complement: z modulo 2 ^ k (RV64I 2.1)
abbrev pub low : ℕ → ℤ → ℕ
low k (pos n) = n % 2 ^ k
low k (negsuc n) = 2 ^ k - 1 - n % 2 ^ k

-- a number below 2 ^ (k + 1), read in two's complement with the sign at bit k (RV64I 2.1)
abbrev pub signed : ℕ → ℕ → ℤ
signed k n = if nat_lt n (2 ^ k) then pos n else negsuc (2 ^ (k + 1) - 1 - n)

-- layout I: bits 31..20 (RV64I 2.1)
abbrev pub imm_i : Fields → ℤ
imm_i f = signed 11 (f.rs2 + f.bit25 * 32 + f.funct6 * 64)

-- layout S: bits 31..25, then 11..7 (RV64I 2.1)
abbrev pub imm_s : Fields → ℤ
imm_s f = signed 11 (f.rd + f.bit25 * 32 + f.funct6 * 64)

-- layout B: bits 31, 7, 30..25, 11..8, then 0 (RV64I 2.1)
abbrev pub imm_b : Fields → ℤ
imm_b f = signed 12 (f.rd / 2 * 2 + f.bit25 * 32 + f.funct6 % 32 * 64 + f.rd % 2 * 2048 + f.funct6 / 32 * 4096)

-- layout U: the field of bits 31..12, without a sign (RV64I 2.1)
abbrev pub imm_u : Fields → ℤ
imm_u f = pos (f.funct3 + f.rs1 * 8 + f.rs2 * 256 + f.bit25 * 8192 + f.funct6 * 16384)

-- layout J: bits 31, 19..12, 20, 30..21, then 0 (RV64I 2.1)
abbrev pub imm_j : Fields → ℤ
imm_j f = signed 20 (f.rs2 / 2 * 2 + f.bit25 * 32 + f.funct6 % 32 * 64 + f.rs2 % 2 * 2048 + f.funct3 * 4096 + f.rs1
    * 32768 + f.funct6 / 32 * 1048576)

-- ---- what a row fixes of a word

-- whether a word has what a row of this layout fixes, its opcode left out (RV64I 2.1)
abbrev pub fixes : Layout → Row → Fields → Bool
fixes R r f = f.funct3 == r.funct3 && f.funct6 == r.funct6 && f.bit25 == r.extra
fixes I r f = f.funct3 == r.funct3
fixes S r f = f.funct3 == r.funct3
fixes B r f = f.funct3 == r.funct3
fixes U r f = true
fixes J r f = true
fixes Shift6 r f = f.funct3 == r.funct3 && f.funct6 == r.funct6
fixes Shift5 r f = f.funct3 == r.funct3 && f.funct6 == r.funct6 && f.bit25 == 0
fixes Order r f = f.funct3 == r.funct3 && f.rd == 0 && f.rs1 == 0 && nat_lt f.funct6 4
fixes Whole r f = f.funct3 == r.funct3 && f.rd == 0 && f.rs1 == 0 && f.rs2 == r.extra && f.funct6 == r.funct6 && f.bit25
    == 0

-- whether a word with these parts is of this row (RV64I 2.1)
abbrev pub is_of : Fields → Row → Bool
is_of f r = f.opcode == r.opcode && fixes r.layout r f

-- ---- instructions and their words

-- The instruction whose word has these parts. A shift's amount is 25..20, or 24..20 for 32 bits; FENCE's
-- immediate is 27..20; what the layout doesn't have is 0 (RV64I 2.1).
abbrev pub read_as : Layout → Op → Fields → Instr
read_as R op f = record { op = op; rd = f.rd; rs1 = f.rs1; rs2 = f.rs2; imm = pos 0 }
read_as I op f = record { op = op; rd = f.rd; rs1 = f.rs1; rs2 = 0; imm = imm_i f }
read_as S op f = record { op = op; rd = 0; rs1 = f.rs1; rs2 = f.rs2; imm = imm_s f }
read_as B op f = record { op = op; rd = 0; rs1 = f.rs1; rs2 = f.rs2; imm = imm_b f }
read_as U op f = record { op = op; rd = f.rd; rs1 = 0; rs2 = 0; imm = imm_u f }
read_as J op f = record { op = op; rd = f.rd; rs1 = 0; rs2 = 0; imm = imm_j f }
read_as Shift6 op f = record { op = op; rd = f.rd; rs1 = f.rs1; rs2 = 0; imm = pos (f.rs2 + f.bit25 * 32) }
read_as Shift5 op f = record { op = op; rd = f.rd; rs1 = f.rs1; rs2 = 0; imm = pos f.rs2 }
read_as Order op f = record { op = op; rd = 0; rs1 = 0; rs2 = 0; imm = pos (f.rs2 + f.bit25 * 32 + f.funct6 * 64) }
read_as Whole op f = record { op = op; rd = 0; rs1 = 0; rs2 = 0; imm = pos 0 }

-- the parts of an instruction's word, with the immediate where its layout has it (RV64I 2.1)
abbrev pub parts_as : Layout → Row → Instr → Fields
parts_as R r i = record {
  opcode = r.opcode;
  rd = i.rd;
  funct3 = r.funct3;
  rs1 = i.rs1;
  rs2 = i.rs2;
  bit25 = r.extra;
  funct6 = r.funct6;
}
parts_as I r i = let n = low 12 i.imm in record {
  opcode = r.opcode;
  rd = i.rd;
  funct3 = r.funct3;
  rs1 = i.rs1;
  rs2 = n % 32;
  bit25 = n / 32 % 2;
  funct6 = n / 64;
}
parts_as S r i = let n = low 12 i.imm in record {
  opcode = r.opcode;
  rd = n % 32;
  funct3 = r.funct3;
  rs1 = i.rs1;
  rs2 = i.rs2;
  bit25 = n / 32 % 2;
  funct6 = n / 64;
}
parts_as B r i = let n = low 13 i.imm in record {
  opcode = r.opcode;
  rd = n / 2 % 16 * 2 + n / 2048 % 2;
  funct3 = r.funct3;
  rs1 = i.rs1;
  rs2 = i.rs2;
  bit25 = n / 32 % 2;
  funct6 = n / 64 % 32 + n / 4096 * 32;
}
parts_as U r i = let n = low 20 i.imm in record {
  opcode = r.opcode;
  rd = i.rd;
  funct3 = n % 8;
  rs1 = n / 8 % 32;
  rs2 = n / 256 % 32;
  bit25 = n / 8192 % 2;
  funct6 = n / 16384;
}
parts_as J r i = let n = low 21 i.imm in record {
  opcode = r.opcode;
  rd = i.rd;
  funct3 = n / 4096 % 8;
  rs1 = n / 32768 % 32;
  rs2 = n / 2 % 16 * 2 + n / 2048 % 2;
  bit25 = n / 32 % 2;
  funct6 =
      n / 64 % 32 + n / 1048576 * 32;
}
parts_as Shift6 r i = let n = low 6 i.imm in record {
  opcode = r.opcode;
  rd = i.rd;
  funct3 = r.funct3;
  rs1 = i.rs1;
  rs2 = n % 32;
  bit25 = n / 32;
  funct6 = r.funct6;
}
parts_as Shift5 r i = let n = low 5 i.imm in record {
  opcode = r.opcode;
  rd = i.rd;
  funct3 = r.funct3;
  rs1 = i.rs1;
  rs2 = n;
  bit25 = 0;
  funct6 = r.funct6;
}
parts_as Order r i = let n = low 8 i.imm in record {
  opcode = r.opcode;
  rd = 0;
  funct3 = r.funct3;
  rs1 = 0;
  rs2 = n % 32;
  bit25 = n / 32 % 2;
  funct6 = n / 64;
}
parts_as Whole r i = record {
  opcode = r.opcode;
  rd = 0;
  funct3 = r.funct3;
  rs1 = 0;
  rs2 = r.extra;
  bit25 = 0;
  funct6 = r.funct6;
}

-- the parts of an instruction's word, by its op's row (RV64I 2.1)
abbrev pub parts_of : Instr → Fields
parts_of i = let r = row_of i.op in parts_as r.layout r i

-- the word of an instruction (RV64I 2.1)
unfoldable pub word_of : Instr → ℕ
word_of i = join (parts_of i)

-- the instruction whose word has these parts: of the row that the word is of, or none (RV64I 2.1)
unfoldable pub decoded : Fields → Option Instr
decoded f = option_map (λ (r : Row). read_as r.layout r.op f) (find (is_of f) table)

-- ---- what an instruction may be

-- from a to b, both included (this project)
abbrev pub From : ℤ → ℤ → ℤ → Type 0
From a b z = (a ≤ℤ z) × (z ≤ℤ b)

-- The fields are in the ranges of the layout: registers below 32, immediates of 12, 13, 20 and 21 bits,
-- branch and jump offsets even, and 0 in each field that the layout doesn't have (RV64I 2.1).
abbrev pub FitsAs : Layout → Instr → Type 0
FitsAs R i = (i.rd < 32) × (i.rs1 < 32) × (i.rs2 < 32) × (i.imm ≡ pos 0)
FitsAs I i = (i.rd < 32) × (i.rs1 < 32) × (i.rs2 ≡ 0) × From (negsuc 2047) (pos 2047) i.imm
FitsAs S i = (i.rd ≡ 0) × (i.rs1 < 32) × (i.rs2 < 32) × From (negsuc 2047) (pos 2047) i.imm
FitsAs B i = (i.rd ≡ 0) × (i.rs1 < 32) × (i.rs2 < 32) × From (negsuc 4095) (pos 4095) i.imm × (low 13 i.imm % 2 ≡ 0)
FitsAs U i = (i.rd < 32) × (i.rs1 ≡ 0) × (i.rs2 ≡ 0) × From (pos 0) (pos 1048575) i.imm
FitsAs J i = (i.rd < 32) × (i.rs1 ≡ 0) × (i.rs2 ≡ 0) × From (negsuc 1048575) (pos 1048575) i.imm
    × (low 21 i.imm % 2 ≡ 0)
FitsAs Shift6 i = (i.rd < 32) × (i.rs1 < 32) × (i.rs2 ≡ 0) × From (pos 0) (pos 63) i.imm
FitsAs Shift5 i = (i.rd < 32) × (i.rs1 < 32) × (i.rs2 ≡ 0) × From (pos 0) (pos 31) i.imm
FitsAs Order i = (i.rd ≡ 0) × (i.rs1 ≡ 0) × (i.rs2 ≡ 0) × From (pos 0) (pos 255) i.imm
FitsAs Whole i = (i.rd ≡ 0) × (i.rs1 ≡ 0) × (i.rs2 ≡ 0) × (i.imm ≡ pos 0)

-- the fields are in the ranges of the op's row (RV64I 2.1)
unfoldable pub Fits : Instr → Type 0
Fits i = FitsAs (row_of i.op).layout i

-- the words of instructions, one after another
abbrev pub words_of : List Instr → List ℕ
words_of code = map word_of code
