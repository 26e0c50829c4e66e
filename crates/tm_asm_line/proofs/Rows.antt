-- Worked lines, read and printed by computing.
use Rattle.std.proofs.Common.{◌≡◌, ℕ, [], ◌∷◌, ◌++◌, pos, negsuc, ℤ, Ok, Err, codes, refl}
use Rattle.std.specs.Fmt.{digits}
use Rattle.tm_base.specs.Numbers.{number_of, digits_reading, reading_at, value_of, place_value}
use Rattle.tm_table.specs.declared.instr.Op.{Op}
use Rattle.tm_table.specs.declared.instr.Op.TheVariants.{Jal, Beq, Ld, Sd, Addi, Fence, Ecall, Lui}
use Rattle.tm_table.specs.declared.instr.Instr.{Instr}
use Rattle.tm_asm_line.specs.declared.fault.AsmFault.TheVariants.{UnknownName, BadRegister, BadNumber, OutOfRange}
use Rattle.tm_asm_line.specs.declared.fault.AsmFault.TheVariants.{BadShape}
use Rattle.tm_asm_line.specs.Shapes.{name_of, shape_of, pieces_of, set_text}
use Rattle.tm_asm_line.specs.Reading.{is_blank, is_delimiter, after_blanks, operand, wanted, register_of, signed_of}
use Rattle.tm_asm_line.specs.Reading.{is_in, set_of, operand_reading, piece_reading, pieces_reading, op_of, name_at}
use Rattle.tm_asm_line.specs.Reading.{line_of}
use Rattle.tm_asm_line.specs.Printing.{operand_text, mark_text, pieces_text, printed}

abbrev instr : Op → ℕ → ℕ → ℕ → ℤ → Instr
instr op rd rs1 rs2 imm = record { op = op; rd = rd; rs1 = rs1; rs2 = rs2; imm = imm }

-- lines and what they are read as
abbrev Reads : Type 0
Reads =
    (line_of (codes "addi x5,x6,-1") ≡ Ok (instr Addi 5 6 0 (negsuc 0)))
    × (line_of (codes "ld x7,8(x28)") ≡ Ok (instr Ld 7 28 0 (pos 8)))
    × (line_of (codes "sd x7,16(x29)") ≡ Ok (instr Sd 0 29 7 (pos 16)))
    × (line_of (codes "beq x5,x6,+8") ≡ Ok (instr Beq 0 5 6 (pos 8)))
    × (line_of (codes "jal x0,0") ≡ Ok (instr Jal 0 0 0 (pos 0)))
    × (line_of (codes "fence rw,rw") ≡ Ok (instr Fence 0 0 0 (pos 51)))
    × (line_of (9 ∷ codes "lui  x31 , 0xFFFFF " ++ 9 ∷ []) ≡ Ok (instr Lui 31 0 0 (pos 1048575)))
    × (line_of (codes " ecall ") ≡ Ok (instr Ecall 0 0 0 (pos 0)))

reads : Reads
unfolding line_of after_blanks is_blank name_at op_of name_of shape_of pieces_of pieces_reading piece_reading operand
    is_delimiter operand_reading register_of signed_of is_in set_of set_text wanted number_of digits_reading reading_at
    value_of place_value
reads = (refl, refl, refl, refl, refl, refl, refl, refl)

-- lines that are refused
abbrev Refuses : Type 0
Refuses =
    (line_of (codes "addi x5, x6, 2048") ≡ Err (OutOfRange (pos 2048)))
    × (line_of (codes "addi x32, x6, 1") ≡ Err (BadRegister 5))
    × (line_of (codes "addi x5, x6") ≡ Err (BadShape 11))
    × (line_of (codes "nop") ≡ Err UnknownName)
    × (line_of (codes "addi x5, x6, 1z") ≡ Err (BadNumber 13))
    × (line_of [] ≡ Err UnknownName)
    × (line_of (codes "addi x05, x6, 1") ≡ Err (BadRegister 5))
    × (line_of (codes "addi x5, x6, +-1") ≡ Err (BadNumber 13))
    × (line_of (codes "addi x5, x6, 18446744073709551616") ≡ Err (BadNumber 13))
    × (line_of (codes "addi x5, x6, -18446744073709551615") ≡ Err (OutOfRange (negsuc 18446744073709551614)))
    × (line_of (codes "beq x5, x6, 7") ≡ Err (OutOfRange (pos 7)))
    × (line_of (codes "fence wr, rw") ≡ Err (BadNumber 6))
    × (line_of (codes "fence  ") ≡ Err (BadShape 5))
    × (line_of (codes "ecall x1") ≡ Err (BadShape 6))
    × (line_of (codes "ld x7, (x28)") ≡ Err (BadShape 7))

refuses : Refuses
unfolding line_of after_blanks is_blank name_at op_of name_of shape_of pieces_of pieces_reading piece_reading operand
    is_delimiter operand_reading register_of signed_of is_in set_of set_text wanted number_of digits_reading reading_at
    value_of place_value
refuses = (refl, refl, refl, refl, refl, refl, refl, refl, refl, refl, refl, refl, refl, refl, refl)

-- instructions and how they are printed
abbrev Prints : Type 0
Prints =
    (printed (instr Addi 5 6 0 (negsuc 0)) ≡ codes "addi x5, x6, -1")
    × (printed (instr Ld 7 28 0 (pos 8)) ≡ codes "ld x7, 8(x28)")
    × (printed (instr Sd 0 29 7 (pos 16)) ≡ codes "sd x7, 16(x29)")
    × (printed (instr Beq 0 5 6 (pos 8)) ≡ codes "beq x5, x6, 8")
    × (printed (instr Jal 0 0 0 (pos 0)) ≡ codes "jal x0, 0")
    × (printed (instr Fence 0 0 0 (pos 51)) ≡ codes "fence rw, rw")
    × (printed (instr Ecall 0 0 0 (pos 0)) ≡ codes "ecall")

prints : Prints
unfolding printed name_of shape_of pieces_of pieces_text operand_text mark_text set_text digits
prints = (refl, refl, refl, refl, refl, refl, refl)
