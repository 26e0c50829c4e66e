-- One instruction's step. All values are modulo 2 ^ 64.
use Rattle.std.specs.Prelude.{◌≡◌, ◌⊎◌, ℕ, zero, suc, ◌+◌, ◌-◌, ◌*◌, ◌/◌, ◌%◌, ◌^◌, ◌<◌, ℤ, pos, negsuc, int_lt, Bool}
use Rattle.std.specs.Prelude.{true, false, not, nat_lt, ◌==◌, List, slice_index, slice_set, bit_and, bit_or, bit_xor}
use Rattle.std.specs.Prelude.{if◌then◌else◌, Option, Some, None, option_map, ◌*ℤ◌, int_div, int_rem}
use Rattle.tm_table.specs.declared.instr.Op.{Op}
use Rattle.tm_table.specs.declared.instr.Op.TheVariants.{Lui, Auipc, Jal, Jalr, Beq, Bne, Blt, Bge, Bltu, Bgeu, Lb}
use Rattle.tm_table.specs.declared.instr.Op.TheVariants.{Lh, Lw, Ld, Lbu, Lhu, Lwu, Sb, Sh, Sw, Sd, Addi, Slti, Sltiu}
use Rattle.tm_table.specs.declared.instr.Op.TheVariants.{Xori, Ori, Andi, Slli, Srli, Srai, Add, Sll, Slt, Sltu, Xor}
use Rattle.tm_table.specs.declared.instr.Op.TheVariants.{Srl, Or, And, Sub, Sra, Addiw, Slliw, Srliw, Sraiw, Addw}
use Rattle.tm_table.specs.declared.instr.Op.TheVariants.{Sllw, Srlw, Subw, Sraw, Fence, Ecall, Ebreak}
use Rattle.tm_table.specs.declared.instr.Op.TheVariants.{Mul, Mulh, Mulhsu, Mulhu, Div, Divu, Rem, Remu}
use Rattle.tm_table.specs.declared.instr.Op.TheVariants.{Mulw, Divw, Divuw, Remw, Remuw}
use Rattle.tm_table.specs.declared.instr.Instr.{Instr}
use Rattle.tm_table.specs.declared.state.Access.{Access}
use Rattle.tm_table.specs.declared.state.Access.TheVariants.{Quiet, Read, Write}
use Rattle.tm_table.specs.declared.step.Action.{Action}
use Rattle.tm_table.specs.declared.step.Action.TheVariants.{Give, Load, Store, Branch, Jump}
use Rattle.tm_table.specs.State.{Hart}
use Rattle.tm_table.specs.Words.{low, signed, split, decoded}

-- ---- numbers

-- modulo 2 ^ 64 (RV64I 2.1)
abbrev pub word64 : ℕ → ℕ
word64 n = n % 2 ^ 64

-- the number whose lowest k + 1 bits are these, with the sign at bit k, modulo 2 ^ 64 (RV64I 2.1)
abbrev pub sign_extended : ℕ → ℕ → ℕ
sign_extended k n = low 64 (signed k (n % 2 ^ (k + 1)))

-- all 64 bits, read in two's complement (RV64I 2.1)
abbrev pub signed64 : ℕ → ℤ
signed64 n = signed 63 n

-- the low 32 bits, read in two's complement (RV64I 2.1)
abbrev pub signed32 : ℕ → ℤ
signed32 n = signed 31 (n % 2 ^ 32)

-- whether a is less than b, both read in two's complement (RV64I 2.1)
abbrev pub signed_lt : ℕ → ℕ → Bool
signed_lt a b = int_lt (signed64 a) (signed64 b)

-- z divided by 2 ^ k and rounded down, as 64 bits (RV64I 2.1)
abbrev pub shifted_down : ℕ → ℤ → ℕ
shifted_down k (pos n) = low 64 (pos (n / 2 ^ k))
shifted_down k (negsuc n) = low 64 (negsuc (n / 2 ^ k))

-- z divided by d and rounded towards 0, and -1 where d is 0 (M 2.0)
abbrev pub quotient : ℤ → ℤ → ℤ
quotient z (pos zero) = negsuc 0
quotient z (pos (suc n)) = int_div z (pos (suc n))
quotient z (negsuc n) = int_div z (negsuc n)

-- what is left of z then, with the sign of z, and z where d is 0 (M 2.0)
abbrev pub remainder : ℤ → ℤ → ℤ
remainder z (pos zero) = z
remainder z (pos (suc n)) = int_rem z (pos (suc n))
remainder z (negsuc n) = int_rem z (negsuc n)

-- 1 where it holds, else 0 (RV64I 2.1)
abbrev pub flag : Bool → ℕ
flag b = if b then 1 else 0

-- ---- a step

-- n in register rd; x0 stays (RV64I 2.1)
unfoldable pub put : List ℕ → ℕ → ℕ → List ℕ
put x zero n = x
put x (suc r) n = slice_set x (suc r) n

-- What an instruction does with its operands: it gives rd a value; loads so many bytes from an address
-- into rd, with their sign or without; stores the low bytes of a value; goes on at pc + imm if taken; or
-- gives rd the link and goes on at the target (this project).
pub data Effect : Type 0 where
  Gives : (value : ℕ) → Effect
  Loads : (addr width : ℕ) → (with_sign : Bool) → Effect
  Stores : (addr width value : ℕ) → Effect
  Branches : (taken : Bool) → Effect
  Jumps : (link target : ℕ) → Effect

-- the effect that an action of the code has (this project)
abbrev pub effect_by : Action → Effect
effect_by (Give value) = Gives value
effect_by (Load addr width with_sign) = Loads addr width with_sign
effect_by (Store addr width value) = Stores addr width value
effect_by (Branch taken) = Branches taken
effect_by (Jump link target) = Jumps link target

-- The effect of an op at pc, where a is x[rs1], b is x[rs2] and i the immediate, all modulo 2 ^ 64
-- (RV64I 2.1, M 2.0). LUI and AUIPC take the field shifted left by 12, with the sign of bit 31. A shift of 64 bits
-- is by the low 6 bits of its amount, one of 32 bits by the low 5. The ops on 32 bits give their result with
-- the sign of bit 31. JALR clears the lowest bit of its target. FENCE, ECALL and EBREAK only go on, as a
-- branch that isn't taken (the last two: this project). A high half of a product is the product, rounded down,
-- divided by 2^64.
unfoldable pub effect : Op → ℕ → ℕ → ℕ → ℕ → Effect
effect Lui pc a b i = Gives (sign_extended 31 (i * 2 ^ 12))
effect Auipc pc a b i = Gives (word64 (pc + sign_extended 31 (i * 2 ^ 12)))
effect Jal pc a b i = Jumps (word64 (pc + 4)) (word64 (pc + i))
effect Jalr pc a b i = Jumps (word64 (pc + 4)) (word64 (a + i) / 2 * 2)
effect Beq pc a b i = Branches (a == b)
effect Bne pc a b i = Branches (not (a == b))
effect Blt pc a b i = Branches (signed_lt a b)
effect Bge pc a b i = Branches (not (signed_lt a b))
effect Bltu pc a b i = Branches (nat_lt a b)
effect Bgeu pc a b i = Branches (not (nat_lt a b))
effect Lb pc a b i = Loads (word64 (a + i)) 1 true
effect Lh pc a b i = Loads (word64 (a + i)) 2 true
effect Lw pc a b i = Loads (word64 (a + i)) 4 true
effect Ld pc a b i = Loads (word64 (a + i)) 8 false
effect Lbu pc a b i = Loads (word64 (a + i)) 1 false
effect Lhu pc a b i = Loads (word64 (a + i)) 2 false
effect Lwu pc a b i = Loads (word64 (a + i)) 4 false
effect Sb pc a b i = Stores (word64 (a + i)) 1 b
effect Sh pc a b i = Stores (word64 (a + i)) 2 b
effect Sw pc a b i = Stores (word64 (a + i)) 4 b
effect Sd pc a b i = Stores (word64 (a + i)) 8 b
effect Addi pc a b i = Gives (word64 (a + i))
effect Slti pc a b i = Gives (flag (signed_lt a i))
effect Sltiu pc a b i = Gives (flag (nat_lt a i))
effect Xori pc a b i = Gives (bit_xor a i)
effect Ori pc a b i = Gives (bit_or a i)
effect Andi pc a b i = Gives (bit_and a i)
effect Slli pc a b i = Gives (word64 (a * 2 ^ (i % 64)))
effect Srli pc a b i = Gives (a / 2 ^ (i % 64))
effect Srai pc a b i = Gives (shifted_down (i % 64) (signed64 a))
effect Add pc a b i = Gives (word64 (a + b))
effect Sll pc a b i = Gives (word64 (a * 2 ^ (b % 64)))
effect Slt pc a b i = Gives (flag (signed_lt a b))
effect Sltu pc a b i = Gives (flag (nat_lt a b))
effect Xor pc a b i = Gives (bit_xor a b)
effect Srl pc a b i = Gives (a / 2 ^ (b % 64))
effect Or pc a b i = Gives (bit_or a b)
effect And pc a b i = Gives (bit_and a b)
effect Sub pc a b i = Gives (word64 (a + (2 ^ 64 - b)))
effect Sra pc a b i = Gives (shifted_down (b % 64) (signed64 a))
effect Addiw pc a b i = Gives (sign_extended 31 (a + i))
effect Slliw pc a b i = Gives (sign_extended 31 (a * 2 ^ (i % 32)))
effect Srliw pc a b i = Gives (sign_extended 31 (a % 2 ^ 32 / 2 ^ (i % 32)))
effect Sraiw pc a b i = Gives (shifted_down (i % 32) (signed32 a))
effect Addw pc a b i = Gives (sign_extended 31 (a + b))
effect Sllw pc a b i = Gives (sign_extended 31 (a * 2 ^ (b % 32)))
effect Srlw pc a b i = Gives (sign_extended 31 (a % 2 ^ 32 / 2 ^ (b % 32)))
effect Subw pc a b i = Gives (sign_extended 31 (a + (2 ^ 64 - b)))
effect Sraw pc a b i = Gives (shifted_down (b % 32) (signed32 a))
effect Fence pc a b i = Branches false
effect Ecall pc a b i = Branches false
effect Ebreak pc a b i = Branches false
effect Mul pc a b i = Gives (word64 (a * b))
effect Mulh pc a b i = Gives (shifted_down 64 (signed64 a *ℤ signed64 b))
effect Mulhsu pc a b i = Gives (shifted_down 64 (signed64 a *ℤ pos b))
effect Mulhu pc a b i = Gives (a * b / 2 ^ 64)
effect Div pc a b i = Gives (low 64 (quotient (signed64 a) (signed64 b)))
effect Divu pc a b i = Gives (low 64 (quotient (pos a) (pos b)))
effect Rem pc a b i = Gives (low 64 (remainder (signed64 a) (signed64 b)))
effect Remu pc a b i = Gives (low 64 (remainder (pos a) (pos b)))
effect Mulw pc a b i = Gives (sign_extended 31 (a * b))
effect Divw pc a b i = Gives (sign_extended 31 (low 64 (quotient (signed32 a) (signed32 b))))
effect Divuw pc a b i = Gives (sign_extended 31 (low 64 (quotient (pos (a % 2 ^ 32)) (pos (b % 2 ^ 32)))))
effect Remw pc a b i = Gives (sign_extended 31 (low 64 (remainder (signed32 a) (signed32 b))))
effect Remuw pc a b i = Gives (sign_extended 31 (low 64 (remainder (pos (a % 2 ^ 32)) (pos (b % 2 ^ 32)))))

-- what a load of so many bytes puts into rd, of the bytes read (RV64I 2.1)
abbrev pub loaded : Bool → ℕ → ℕ → ℕ
loaded false width read = read
loaded true width read = sign_extended (8 * width - 1) read

-- The hart after the effect, and its access: rd and the immediate i modulo 2 ^ 64 are the instruction's,
-- and read is the bytes that a load reads (RV64I 2.1).
unfoldable pub after : Effect → Hart → ℕ → ℕ → ℕ → Hart × Access
after (Gives value) hart rd i read = (record { pc = word64 (hart.pc + 4); x = put hart.x rd value }, Quiet)
after (Loads addr width with_sign) hart rd i read =
    (record { pc = word64 (hart.pc + 4); x = put hart.x rd (loaded with_sign width read) }, Read addr width read)
after (Stores addr width value) hart rd i read = (
  record { pc = word64 (hart.pc + 4); x = hart.x },
  Write addr width (value % 2 ^ (8 * width)),
)
after (Branches taken) hart rd i read =
    (record { pc = (if taken then word64 (hart.pc + i) else word64 (hart.pc + 4)); x = hart.x }, Quiet)
after (Jumps link target) hart rd i read = (record { pc = target; x = put hart.x rd link }, Quiet)

-- an instruction's effect at a hart (RV64I 2.1)
abbrev pub effect_at : Hart → Instr → Effect
effect_at hart i = effect i.op hart.pc (slice_index hart.x i.rs1) (slice_index hart.x i.rs2) (low 64 i.imm)

-- the step of an instruction (RV64I 2.1)
unfoldable pub row : Hart → Instr → ℕ → Hart × Access
row hart i read = after (effect_at hart i) hart i.rd (low 64 i.imm) read

-- the step of a word: none where no row has it (RV64I 2.1)
unfoldable pub row_word : Hart → ℕ → ℕ → Option (Hart × Access)
row_word hart word read = option_map (λ (i : Instr). row hart i read) (decoded (split word))

-- a width that an access may have, in bytes (RV64I 2.1)
abbrev pub IsWidth : ℕ → Type 0
IsWidth n = (n ≡ 1) ⊎ ((n ≡ 2) ⊎ ((n ≡ 4) ⊎ (n ≡ 8)))

-- the effect's access, if it makes one, has such a width (RV64I 2.1)
abbrev pub HasWidth : Effect → Type 0
HasWidth (Loads addr width with_sign) = IsWidth width
HasWidth (Stores addr width value) = IsWidth width
HasWidth (Gives value) = Unit {0}
HasWidth (Branches taken) = Unit {0}
HasWidth (Jumps link target) = Unit {0}

-- ---- what a step reads

-- the address and the width of an access that reads (this project)
abbrev pub read_in : Access → Option (ℕ × ℕ)
read_in (Read addr width value) = Some (addr, width)
read_in Quiet = None
read_in (Write addr width value) = None

-- the address and the width that an effect loads from (this project)
abbrev pub loads : Effect → Option (ℕ × ℕ)
loads (Loads addr width with_sign) = Some (addr, width)
loads (Gives value) = None
loads (Stores addr width value) = None
loads (Branches taken) = None
loads (Jumps link target) = None

-- what an instruction reads at a hart, if it reads (this project)
unfoldable pub read_at : Hart → Instr → Option (ℕ × ℕ)
read_at hart i = loads (effect_at hart i)

-- whether it is one of the seven loads (RV64I 2.1)
abbrev pub is_load : Op → Bool
is_load Lb = true
is_load Lh = true
is_load Lw = true
is_load Ld = true
is_load Lbu = true
is_load Lhu = true
is_load Lwu = true
is_load _ = false

-- bytes are given exactly where some are read, as a number of their width (this project)
abbrev pub IsGiven : Option (ℕ × ℕ) → Option ℕ → Type 0
IsGiven None None = Unit {0}
IsGiven (Some place) (Some bytes) = bytes < 2 ^ (8 * place.1)
IsGiven None (Some bytes) = ⊥
IsGiven (Some place) None = ⊥
