-- How one line of assembler text is read (this project).
use Rattle.std.specs.Prelude.{ℕ, ◌+◌, ◌-◌, ◌*◌, ◌/◌, ◌%◌, ◌==◌, Bool, not, ◌&&◌, ◌||◌, nat_lt, if◌then◌else◌, ℤ, pos}
use Rattle.std.specs.Prelude.{negsuc, ◌-ℤ◌, int_le, unsigned_abs, List, [], ◌∷◌, length, drop, find, slice_index}
use Rattle.std.specs.Prelude.{bytes_eq, Option, Some, None, option_map, Result, Ok, Err}
use Rattle.std.specs.List.{take_while, prefix_len, suffix_len}
use Rattle.std.specs.Char.{is_digit, digit_value}
use Rattle.tm_base.specs.declared.numbers.NumberFault.{NumberFault}
use Rattle.tm_base.specs.Numbers.{number_of}
use Rattle.tm_table.specs.declared.instr.Op.{Op}
use Rattle.tm_table.specs.declared.instr.Instr.{Instr}
use Rattle.tm_table.specs.Table.{ops}
use Rattle.tm_asm_line.specs.declared.shape.Slot.{Slot}
use Rattle.tm_asm_line.specs.declared.shape.Slot.TheVariants.{Rd, Rs1, Rs2}
use Rattle.tm_asm_line.specs.declared.shape.Side.{Side}
use Rattle.tm_asm_line.specs.declared.shape.Side.TheVariants.{Before, After}
use Rattle.tm_asm_line.specs.declared.shape.Range.{Range}
use Rattle.tm_asm_line.specs.declared.shape.Operand.{Operand}
use Rattle.tm_asm_line.specs.declared.shape.Operand.TheVariants.{Register, Number, Set}
use Rattle.tm_asm_line.specs.declared.shape.Piece.{Piece}
use Rattle.tm_asm_line.specs.declared.shape.Piece.TheVariants.{Take, Mark}
use Rattle.tm_asm_line.specs.declared.fault.AsmFault.{AsmFault}
use Rattle.tm_asm_line.specs.declared.fault.AsmFault.TheVariants.{UnknownName, BadRegister, BadNumber, OutOfRange}
use Rattle.tm_asm_line.specs.declared.fault.AsmFault.TheVariants.{BadShape}
use Rattle.tm_asm_line.specs.Shapes.{name_of, shape_of, pieces_of, set_text, sets}

-- ---- bytes

-- a space or a tab
unfoldable pub is_blank : ℕ → Bool
is_blank b = b == 32 || b == 9

-- what ends an operand: a blank, a comma, a parenthesis
unfoldable pub is_delimiter : ℕ → Bool
is_delimiter b = is_blank b || (b == 44 || (b == 40 || b == 41))

-- the place after the blanks at a place
unfoldable pub after_blanks : List ℕ → ℕ → ℕ
after_blanks text at = at + prefix_len is_blank (drop at text)

-- the operand at a place, up to what ends it
unfoldable pub operand : List ℕ → ℕ → List ℕ
operand text at = take_while (λ b. not (is_delimiter b)) (drop at text)

-- where something that is missing at a place was wanted: there, or where the text ends but for blanks
unfoldable pub wanted : List ℕ → ℕ → ℕ
wanted text at = if nat_lt at (length text) then at else length text - suffix_len is_blank text

-- ---- operands

-- one of x0 to x31, without leading zeros: 120 is `x`, 48 is `0`
unfoldable pub register_of : List ℕ → Option ℕ
register_of bs =
    let a = slice_index bs 1 in
    let b = slice_index bs 2 in
    if not (slice_index bs 0 == 120) then None
    else if length bs == 2 && is_digit a 10 then Some (digit_value a)
    else if length bs == 3 && ((is_digit a 10 && is_digit b 10)
    && (not (a == 48) && nat_lt (10 * digit_value a + digit_value b) 32))
    then Some (10 * digit_value a + digit_value b) else None

-- the number that was read, if it was
abbrev pub value_of : Result ℕ NumberFault → Option ℕ
value_of (Ok n) = Some n
value_of (Err e) = None

-- the number below zero
abbrev pub negative : ℕ → ℤ
negative n = pos 0 -ℤ pos n

-- a number behind its first byte where this is a sign: 45 is `-`, 43 is `+`
abbrev pub signed_by : ℕ → List ℕ → Option ℤ
signed_by sign bs =
    if sign == 45 then option_map negative (value_of (number_of (drop 1 bs)))
    else if sign == 43 then option_map pos (value_of (number_of (drop 1 bs)))
    else option_map pos (value_of (number_of bs))

-- a number with an optional sign
unfoldable pub signed_of : List ℕ → Option ℤ
signed_of bs = signed_by (slice_index bs 0) bs

-- whether a number is in a range
unfoldable pub is_in : Range → ℤ → Bool
is_in r z = (int_le r.first z && int_le z r.last) && (not r.even || unsigned_abs z % 2 == 0)

-- the number of the set that a text names
unfoldable pub set_of : List ℕ → Option ℕ
set_of bs = find (λ n. bytes_eq (set_text n) bs) sets

-- the instruction with a register in a field
abbrev pub with_register : Slot → ℕ → Instr → Instr
with_register Rd r i = record i { rd = r }
with_register Rs1 r i = record i { rs1 = r }
with_register Rs2 r i = record i { rs2 = r }

-- the two sets that an immediate holds, 16 times the one before plus the one after
abbrev pub set_before : ℤ → ℕ
set_before (pos n) = n % 256 / 16
set_before (negsuc n) = 0

-- the set after, of the two that an immediate holds
abbrev pub set_after : ℤ → ℕ
set_after (pos n) = n % 16
set_after (negsuc n) = 0

-- the instruction with a set in its immediate
abbrev pub with_set : Side → ℕ → Instr → Instr
with_set Before s i = record i { imm = pos (16 * s + set_after i.imm) }
with_set After s i = record i { imm = pos (16 * set_before i.imm + s) }

-- ---- pieces

-- the instruction with a register, where the text names one
abbrev pub or_register : Slot → ℕ → Instr → Option ℕ → Result Instr AsmFault
or_register s at i None = Err (BadRegister at)
or_register s at i (Some r) = Ok (with_register s r i)

-- the instruction with a number, where the text is one and it is in the range
abbrev pub or_number : Range → ℕ → Instr → Option ℤ → Result Instr AsmFault
or_number r at i None = Err (BadNumber at)
or_number r at i (Some z) = if is_in r z then Ok (record i { imm = z }) else Err (OutOfRange z)

-- the instruction with a set, where the text names one
abbrev pub or_set : Side → ℕ → Instr → Option ℕ → Result Instr AsmFault
or_set s at i None = Err (BadNumber at)
or_set s at i (Some n) = Ok (with_set s n i)

-- the instruction with an operand of this text, which begins at a place
unfoldable pub operand_reading : Operand → ℕ → List ℕ → Instr → Result Instr AsmFault
operand_reading (Register s) at bs i = or_register s at i (register_of bs)
operand_reading (Number r) at bs i = or_number r at i (signed_of bs)
operand_reading (Set s) at bs i = or_set s at i (set_of bs)

-- the place behind what was read, and the instruction so far
abbrev pub and_place : ℕ → Result Instr AsmFault → Result (ℕ × Instr) AsmFault
and_place at (Ok i) = Ok (at, i)
and_place at (Err e) = Err e

-- an operand, where one stands at the place
abbrev pub taken : Operand → List ℕ → ℕ → Instr → List ℕ → Result (ℕ × Instr) AsmFault
taken o text at i [] = Err (BadShape (wanted text at))
taken o text at i (b ∷ bs) = and_place (at + length (b ∷ bs)) (operand_reading o at (b ∷ bs) i)

-- one piece at a place where no blank stands
unfoldable pub piece_reading : List ℕ → Piece → ℕ → Instr → Result (ℕ × Instr) AsmFault
piece_reading text (Take o) at i = taken o text at i (operand text at)
piece_reading text (Mark m) at i =
    if nat_lt at (length text) && slice_index text at == m then Ok (at + 1, i) else Err (BadShape (wanted text at))

-- what comes after a piece that was read; the fault where it wasn't
abbrev pub and_then : Result (ℕ × Instr) AsmFault → (ℕ → Instr → Result Instr AsmFault) → Result Instr AsmFault
and_then (Ok p) next = next p.0 p.1
and_then (Err e) next = Err e

-- the pieces from a place on, with blanks around them, up to the text's end
unfoldable pub pieces_reading : List ℕ → List Piece → ℕ → Instr → Result Instr AsmFault
pieces_reading text [] at i =
    if after_blanks text at == length text then Ok i else Err (BadShape (wanted text (after_blanks text at)))
pieces_reading text (p ∷ ps) at i = and_then (piece_reading text p (after_blanks text at) i) (pieces_reading text ps)

-- ---- a line

-- an op alone
abbrev pub bare : Op → Instr
bare op = record { op = op; rd = 0; rs1 = 0; rs2 = 0; imm = pos 0 }

-- the op that a text names
unfoldable pub op_of : List ℕ → Option Op
op_of name = find (λ op. bytes_eq (name_of op) name) ops

-- the name at a place, up to a blank
unfoldable pub name_at : List ℕ → ℕ → List ℕ
name_at text at = take_while (λ b. not (is_blank b)) (drop at text)

-- the operands behind a name, where it is one
abbrev pub named : List ℕ → ℕ → Option Op → Result Instr AsmFault
named text at None = Err UnknownName
named text at (Some op) = pieces_reading text (pieces_of (shape_of op)) at (bare op)

-- The instruction that a text is read as, or the first fault from left to right.
unfoldable pub line_of : List ℕ → Result Instr AsmFault
line_of text = let at = after_blanks text 0 in named text (at + length (name_at text at)) (op_of (name_at text at))
