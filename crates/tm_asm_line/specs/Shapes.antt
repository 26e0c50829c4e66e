-- The names of the ops, and the table of their operands (this project; the names are those of RV64I 2.1 and M 2.0, in
-- lower case).
use Rattle.std.specs.Prelude.{ℕ, ℤ, pos, negsuc, Bool, true, false, List, [], ◌∷◌, get_or, codes}
use Rattle.tm_table.specs.declared.instr.Op.{Op}
use Rattle.tm_table.specs.declared.instr.Op.TheVariants.{Lui, Auipc, Jal, Jalr, Beq, Bne, Blt, Bge, Bltu, Bgeu, Lb}
use Rattle.tm_table.specs.declared.instr.Op.TheVariants.{Lh, Lw, Ld, Lbu, Lhu, Lwu, Sb, Sh, Sw, Sd, Addi, Slti, Sltiu}
use Rattle.tm_table.specs.declared.instr.Op.TheVariants.{Xori, Ori, Andi, Slli, Srli, Srai, Add, Sll, Slt, Sltu, Xor}
use Rattle.tm_table.specs.declared.instr.Op.TheVariants.{Srl, Or, And, Sub, Sra, Addiw, Slliw, Srliw, Sraiw, Addw}
use Rattle.tm_table.specs.declared.instr.Op.TheVariants.{Sllw, Srlw, Subw, Sraw, Fence, Ecall, Ebreak}
use Rattle.tm_table.specs.declared.instr.Op.TheVariants.{Mul, Mulh, Mulhsu, Mulhu, Div, Divu, Rem, Remu}
use Rattle.tm_table.specs.declared.instr.Op.TheVariants.{Mulw, Divw, Divuw, Remw, Remuw}
use Rattle.tm_asm_line.specs.declared.shape.Slot.{Slot}
use Rattle.tm_asm_line.specs.declared.shape.Slot.TheVariants.{Rd, Rs1, Rs2}
use Rattle.tm_asm_line.specs.declared.shape.Side.TheVariants.{Before, After}
use Rattle.tm_asm_line.specs.declared.shape.Range.{Range}
use Rattle.tm_asm_line.specs.declared.shape.Operand.TheVariants.{Register, Number, Set}
use Rattle.tm_asm_line.specs.declared.shape.Piece.{Piece}
use Rattle.tm_asm_line.specs.declared.shape.Piece.TheVariants.{Take, Mark}
use Rattle.tm_asm_line.specs.declared.shape.Shape.{Shape}
use Rattle.tm_asm_line.specs.declared.shape.Shape.TheVariants.{Upper, Jump, Memory, Branch, Store, Immediate, Shift64}
use Rattle.tm_asm_line.specs.declared.shape.Shape.TheVariants.{Shift32, Registers, Fences, Bare}

-- the op's name (RV64I 2.1, M 2.0)
unfoldable pub name_of : Op → List ℕ
name_of Lui = codes "lui"
name_of Auipc = codes "auipc"
name_of Jal = codes "jal"
name_of Jalr = codes "jalr"
name_of Beq = codes "beq"
name_of Bne = codes "bne"
name_of Blt = codes "blt"
name_of Bge = codes "bge"
name_of Bltu = codes "bltu"
name_of Bgeu = codes "bgeu"
name_of Lb = codes "lb"
name_of Lh = codes "lh"
name_of Lw = codes "lw"
name_of Ld = codes "ld"
name_of Lbu = codes "lbu"
name_of Lhu = codes "lhu"
name_of Lwu = codes "lwu"
name_of Sb = codes "sb"
name_of Sh = codes "sh"
name_of Sw = codes "sw"
name_of Sd = codes "sd"
name_of Addi = codes "addi"
name_of Slti = codes "slti"
name_of Sltiu = codes "sltiu"
name_of Xori = codes "xori"
name_of Ori = codes "ori"
name_of Andi = codes "andi"
name_of Slli = codes "slli"
name_of Srli = codes "srli"
name_of Srai = codes "srai"
name_of Add = codes "add"
name_of Sll = codes "sll"
name_of Slt = codes "slt"
name_of Sltu = codes "sltu"
name_of Xor = codes "xor"
name_of Srl = codes "srl"
name_of Or = codes "or"
name_of And = codes "and"
name_of Sub = codes "sub"
name_of Sra = codes "sra"
name_of Addiw = codes "addiw"
name_of Slliw = codes "slliw"
name_of Srliw = codes "srliw"
name_of Sraiw = codes "sraiw"
name_of Addw = codes "addw"
name_of Sllw = codes "sllw"
name_of Srlw = codes "srlw"
name_of Subw = codes "subw"
name_of Sraw = codes "sraw"
name_of Fence = codes "fence"
name_of Ecall = codes "ecall"
name_of Ebreak = codes "ebreak"
name_of Mul = codes "mul"
name_of Mulh = codes "mulh"
name_of Mulhsu = codes "mulhsu"
name_of Mulhu = codes "mulhu"
name_of Div = codes "div"
name_of Divu = codes "divu"
name_of Rem = codes "rem"
name_of Remu = codes "remu"
name_of Mulw = codes "mulw"
name_of Divw = codes "divw"
name_of Divuw = codes "divuw"
name_of Remw = codes "remw"
name_of Remuw = codes "remuw"

-- which operands an op has (this project)
unfoldable pub shape_of : Op → Shape
shape_of Lui = Upper
shape_of Auipc = Upper
shape_of Jal = Jump
shape_of Jalr = Memory
shape_of Beq = Branch
shape_of Bne = Branch
shape_of Blt = Branch
shape_of Bge = Branch
shape_of Bltu = Branch
shape_of Bgeu = Branch
shape_of Lb = Memory
shape_of Lh = Memory
shape_of Lw = Memory
shape_of Ld = Memory
shape_of Lbu = Memory
shape_of Lhu = Memory
shape_of Lwu = Memory
shape_of Sb = Store
shape_of Sh = Store
shape_of Sw = Store
shape_of Sd = Store
shape_of Addi = Immediate
shape_of Slti = Immediate
shape_of Sltiu = Immediate
shape_of Xori = Immediate
shape_of Ori = Immediate
shape_of Andi = Immediate
shape_of Slli = Shift64
shape_of Srli = Shift64
shape_of Srai = Shift64
shape_of Add = Registers
shape_of Sll = Registers
shape_of Slt = Registers
shape_of Sltu = Registers
shape_of Xor = Registers
shape_of Srl = Registers
shape_of Or = Registers
shape_of And = Registers
shape_of Sub = Registers
shape_of Sra = Registers
shape_of Addiw = Immediate
shape_of Slliw = Shift32
shape_of Srliw = Shift32
shape_of Sraiw = Shift32
shape_of Addw = Registers
shape_of Sllw = Registers
shape_of Srlw = Registers
shape_of Subw = Registers
shape_of Sraw = Registers
shape_of Fence = Fences
shape_of Ecall = Bare
shape_of Ebreak = Bare
shape_of Mul = Registers
shape_of Mulh = Registers
shape_of Mulhsu = Registers
shape_of Mulhu = Registers
shape_of Div = Registers
shape_of Divu = Registers
shape_of Rem = Registers
shape_of Remu = Registers
shape_of Mulw = Registers
shape_of Divw = Registers
shape_of Divuw = Registers
shape_of Remw = Registers
shape_of Remuw = Registers

-- from one number to another, all of them or the even ones
abbrev range : ℤ → ℤ → Bool → Range
range first last even = record { first = first; last = last; even = even }

-- a register, a number, a comma and the parentheses
abbrev reg : Slot → Piece
reg s = Take (Register s)

abbrev num : ℤ → ℤ → Bool → Piece
num first last even = Take (Number (range first last even))

abbrev comma : Piece
comma = Mark 44

-- what the operands are, from left to right: 44 is a comma, 40 and 41 are the parentheses (this project)
unfoldable pub pieces_of : Shape → List Piece
pieces_of Upper = reg Rd ∷ comma ∷ num (pos 0) (pos 1048575) false ∷ []
pieces_of Jump = reg Rd ∷ comma ∷ num (negsuc 1048575) (pos 1048574) true ∷ []
pieces_of Memory = reg Rd ∷ comma ∷ num (negsuc 2047) (pos 2047) false ∷ Mark 40 ∷ reg Rs1 ∷ Mark 41 ∷ []
pieces_of Branch = reg Rs1 ∷ comma ∷ reg Rs2 ∷ comma ∷ num (negsuc 4095) (pos 4094) true ∷ []
pieces_of Store = reg Rs2 ∷ comma ∷ num (negsuc 2047) (pos 2047) false ∷ Mark 40 ∷ reg Rs1 ∷ Mark 41 ∷ []
pieces_of Immediate = reg Rd ∷ comma ∷ reg Rs1 ∷ comma ∷ num (negsuc 2047) (pos 2047) false ∷ []
pieces_of Shift64 = reg Rd ∷ comma ∷ reg Rs1 ∷ comma ∷ num (pos 0) (pos 63) false ∷ []
pieces_of Shift32 = reg Rd ∷ comma ∷ reg Rs1 ∷ comma ∷ num (pos 0) (pos 31) false ∷ []
pieces_of Registers = reg Rd ∷ comma ∷ reg Rs1 ∷ comma ∷ reg Rs2 ∷ []
pieces_of Fences = Take (Set Before) ∷ comma ∷ Take (Set After) ∷ []
pieces_of Bare = []

-- The texts of FENCE's sets below 15, by number: `0`, or letters of iorw in this order, with i 8, o 4, r 2 and w 1
-- (this project).
abbrev set_texts : List (List ℕ)
set_texts = codes "0" ∷ codes "w" ∷ codes "r" ∷ codes "rw" ∷ codes "o" ∷ codes "ow" ∷ codes "or" ∷ codes "orw"
    ∷ codes "i" ∷ codes "iw" ∷ codes "ir" ∷ codes "irw" ∷ codes "io" ∷ codes "iow" ∷ codes "ior" ∷ []

-- the same with the last, which has all four letters
unfoldable pub set_text : ℕ → List ℕ
set_text n = get_or set_texts n (codes "iorw")

-- the numbers of the sets
abbrev pub sets : List ℕ
sets = 0 ∷ 1 ∷ 2 ∷ 3 ∷ 4 ∷ 5 ∷ 6 ∷ 7 ∷ 8 ∷ 9 ∷ 10 ∷ 11 ∷ 12 ∷ 13 ∷ 14 ∷ 15 ∷ []
