-- How one instruction is printed (this project).
use Rattle.std.specs.Prelude.{ℕ, ◌==◌, if◌then◌else◌, List, [], ◌∷◌, ◌++◌}
use Rattle.std.specs.Fmt.{decimal, signed_decimal}
use Rattle.tm_table.specs.declared.instr.Instr.{Instr}
use Rattle.tm_asm_line.specs.declared.shape.Slot.{Slot}
use Rattle.tm_asm_line.specs.declared.shape.Slot.TheVariants.{Rd, Rs1, Rs2}
use Rattle.tm_asm_line.specs.declared.shape.Side.{Side}
use Rattle.tm_asm_line.specs.declared.shape.Side.TheVariants.{Before, After}
use Rattle.tm_asm_line.specs.declared.shape.Operand.{Operand}
use Rattle.tm_asm_line.specs.declared.shape.Operand.TheVariants.{Register, Number, Set}
use Rattle.tm_asm_line.specs.declared.shape.Piece.{Piece}
use Rattle.tm_asm_line.specs.declared.shape.Piece.TheVariants.{Take, Mark}
use Rattle.tm_asm_line.specs.Shapes.{name_of, shape_of, pieces_of, set_text}
use Rattle.tm_asm_line.specs.Reading.{set_before, set_after}

-- the register in a field
abbrev pub register_in : Slot → Instr → ℕ
register_in Rd i = i.rd
register_in Rs1 i = i.rs1
register_in Rs2 i = i.rs2

-- one of the two sets in an immediate
abbrev pub set_in : Side → Instr → ℕ
set_in Before i = set_before i.imm
set_in After i = set_after i.imm

-- an operand: 120 is `x`; numbers are decimal, with `-` where negative
unfoldable pub operand_text : Operand → Instr → List ℕ
operand_text (Register s) i = 120 ∷ decimal (register_in s i)
operand_text (Number r) i = signed_decimal i.imm
operand_text (Set s) i = set_text (set_in s i)

-- a mark, with a blank behind a comma
unfoldable pub mark_text : ℕ → List ℕ
mark_text m = m ∷ (if m == 44 then 32 ∷ [] else [])

-- a piece of an instruction, printed
abbrev pub piece_text : Piece → Instr → List ℕ
piece_text (Take o) i = operand_text o i
piece_text (Mark m) i = mark_text m

-- pieces of an instruction, printed one behind the other
unfoldable pub pieces_text : List Piece → Instr → List ℕ
pieces_text [] i = []
pieces_text (p ∷ ps) i = piece_text p i ++ pieces_text ps i

-- a blank before operands, if there are any
abbrev pub gap : List Piece → List ℕ
gap [] = []
gap (p ∷ ps) = 32 ∷ []

-- the printed form of an instruction
unfoldable pub printed : Instr → List ℕ
printed i = let ps = pieces_of (shape_of i.op) in name_of i.op ++ (gap ps ++ pieces_text ps i)
