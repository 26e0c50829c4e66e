-- What the instruction in a slot of a stream touches. In a stream x28, x29 and x30 hold the bases of windows 0, 1 and 2
-- (this project's own), so that the address of each load and store is known from its word.
use Rattle.std.specs.Prelude.{ℕ, ◌+◌, ◌-◌, ◌/◌, ◌%◌, ◌^◌, ◌≤◌, Bool, true, false, nat_lt, Option}
use Rattle.tm_table.specs.declared.instr.Op.{Op}
use Rattle.tm_table.specs.declared.instr.Op.TheVariants.{Jal, Jalr, Lb, Lh, Lw, Ld, Lbu, Lhu, Lwu, Sb, Sh, Sw, Sd}
use Rattle.tm_table.specs.declared.instr.Op.TheVariants.{Ecall, Ebreak, Mul, Mulh, Mulhsu, Mulhu, Div, Divu, Rem}
use Rattle.tm_table.specs.declared.instr.Op.TheVariants.{Remu, Mulw, Divw, Divuw, Remw, Remuw}
use Rattle.tm_table.specs.declared.instr.Instr.{Instr}
pub use Rattle.tm_table.specs.Ops.{is_branch}
use Rattle.tm_table.specs.Words.{low, split, decoded}
use Rattle.tm_plan_map.specs.Map.{window_at, within}

-- the instruction of a word, where a row of the table has it (RV64I 2.1)
unfoldable pub instr_of : ℕ → Option Instr
instr_of w = decoded (split w)

-- the bytes that a load reads, 0 for every other op (RV64I 2.1)
abbrev pub load_width : Op → ℕ
load_width Lb = 1
load_width Lbu = 1
load_width Lh = 2
load_width Lhu = 2
load_width Lw = 4
load_width Lwu = 4
load_width Ld = 8
load_width _ = 0

-- the bytes that a store writes, 0 for every other op (RV64I 2.1)
abbrev pub store_width : Op → ℕ
store_width Sb = 1
store_width Sh = 2
store_width Sw = 4
store_width Sd = 8
store_width _ = 0

-- a load or a store
abbrev pub is_access : Op → Bool
is_access op = nat_lt 0 (load_width op + store_width op)

-- an op that has no place in a stream
abbrev pub is_barred : Op → Bool
is_barred Jalr = true
is_barred Ecall = true
is_barred Ebreak = true
is_barred _ = false

-- a product, a quotient or a remainder (RV64M)
abbrev pub is_product : Op → Bool
is_product Mul = true
is_product Mulh = true
is_product Mulhsu = true
is_product Mulhu = true
is_product Div = true
is_product Divu = true
is_product Rem = true
is_product Remu = true
is_product Mulw = true
is_product Divw = true
is_product Divuw = true
is_product Remw = true
is_product Remuw = true
is_product _ = false

-- a branch or JAL
abbrev pub is_jump : Op → Bool
is_jump Jal = true
is_jump op = is_branch op

-- the number of a register that holds a window's base
abbrev pub IsBase : ℕ → Type 0
IsBase r = (28 ≤ r) × (r ≤ 30)

-- the address of a load or store in a stream, by the base register's number
unfoldable pub slot_addr : Instr → ℕ
slot_addr i = (window_at (i.rs1 - 28) + low 64 i.imm) % 2 ^ 64

-- the slot to which a branch or JAL at slot n goes, where it goes
unfoldable pub slot_target : ℕ → Instr → ℕ
slot_target n i = n + low 64 i.imm / 4

-- a store covers byte b, executed or not
unfoldable pub stores_to : ℕ → Instr → Bool
stores_to b i = within (slot_addr i) (store_width i.op) b

-- a load covers byte b, executed or not
unfoldable pub loads_from : ℕ → Instr → Bool
loads_from b i = within (slot_addr i) (load_width i.op) b
