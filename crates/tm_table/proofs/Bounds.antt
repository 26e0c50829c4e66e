-- What effects hold are numbers of 64 bits.
use Rattle.std.proofs.Common.{ℕ, ◌/◌, ◌%◌, ◌^◌, ◌<◌, ℤ, pos, negsuc, Bool, true, false, arith}
use Rattle.std.proofs.lemmas.Nat.{xor_lt, or_lt, and_le_l, shr_le, mul-lt}
use Rattle.tm_table.specs.declared.instr.Op.{Op}
use Rattle.tm_table.specs.declared.instr.Op.TheVariants.{Lui, Auipc, Jal, Jalr, Sb, Sh, Sw, Sd, Addi, Slti, Sltiu}
use Rattle.tm_table.specs.declared.instr.Op.TheVariants.{Xori, Ori, Andi, Slli, Srli, Srai, Add, Sll, Slt, Sltu, Xor}
use Rattle.tm_table.specs.declared.instr.Op.TheVariants.{Srl, Or, And, Sub, Sra, Addiw, Slliw, Srliw, Sraiw, Addw}
use Rattle.tm_table.specs.declared.instr.Op.TheVariants.{Sllw, Srlw, Subw, Sraw}
use Rattle.tm_table.specs.declared.instr.Op.TheVariants.{Mul, Mulh, Mulhsu, Mulhu, Div, Divu, Rem, Remu}
use Rattle.tm_table.specs.declared.instr.Op.TheVariants.{Mulw, Divw, Divuw, Remw, Remuw}
use Rattle.tm_table.specs.Row.{Effect, Gives, Loads, Stores, Branches, Jumps, effect, shifted_down, flag}
use Rattle.tm_table.proofs.Signs.{low-lt}

abbrev pub IsBounded : Effect → Type 0
IsBounded (Gives value) = value < 2 ^ 64
IsBounded (Loads addr width with_sign) = Unit {0}
IsBounded (Stores addr width value) = value < 2 ^ 64
IsBounded (Branches taken) = Unit {0}
IsBounded (Jumps link target) = (link < 2 ^ 64) × (target < 2 ^ 64)

flag-lt : (b : Bool) → flag b < 2 ^ 64
flag-lt true = omega arith
flag-lt false = omega arith

shifted_down-lt : (k : ℕ) (z : ℤ) → shifted_down k z < 2 ^ 64
shifted_down-lt k (pos n) = low-lt 64 (pos (n / 2 ^ k))
shifted_down-lt k (negsuc n) = low-lt 64 (negsuc (n / 2 ^ k))

pub effect-bounded : (op : Op) (pc a b i : ℕ) → a < 2 ^ 64 → b < 2 ^ 64 → i < 2 ^ 64 → IsBounded (effect op pc a b i)
unfolding effect
effect-bounded Lui pc a b i h p q = low-lt 64 _
effect-bounded Auipc pc a b i h p q = omega arith
effect-bounded Jal pc a b i h p q = (omega arith, omega arith)
effect-bounded Jalr pc a b i h p q = (omega arith, omega arith)
effect-bounded Sb pc a b i h p q = p
effect-bounded Sh pc a b i h p q = p
effect-bounded Sw pc a b i h p q = p
effect-bounded Sd pc a b i h p q = p
effect-bounded Addi pc a b i h p q = omega arith
effect-bounded Slti pc a b i h p q = flag-lt _
effect-bounded Sltiu pc a b i h p q = flag-lt _
effect-bounded Xori pc a b i h p q = xor_lt 64 a i h q
effect-bounded Ori pc a b i h p q = or_lt 64 a i h q
effect-bounded Andi pc a b i h p q = let le = and_le_l a i in omega arith
effect-bounded Slli pc a b i h p q = omega arith
effect-bounded Srli pc a b i h p q = let le = shr_le a (i % 64) in omega arith
effect-bounded Srai pc a b i h p q = shifted_down-lt _ _
effect-bounded Add pc a b i h p q = omega arith
effect-bounded Sll pc a b i h p q = omega arith
effect-bounded Slt pc a b i h p q = flag-lt _
effect-bounded Sltu pc a b i h p q = flag-lt _
effect-bounded Xor pc a b i h p q = xor_lt 64 a b h p
effect-bounded Srl pc a b i h p q = let le = shr_le a (b % 64) in omega arith
effect-bounded Or pc a b i h p q = or_lt 64 a b h p
effect-bounded And pc a b i h p q = let le = and_le_l a b in omega arith
effect-bounded Sub pc a b i h p q = omega arith
effect-bounded Sra pc a b i h p q = shifted_down-lt _ _
effect-bounded Addiw pc a b i h p q = low-lt 64 _
effect-bounded Slliw pc a b i h p q = low-lt 64 _
effect-bounded Srliw pc a b i h p q = low-lt 64 _
effect-bounded Sraiw pc a b i h p q = shifted_down-lt _ _
effect-bounded Addw pc a b i h p q = low-lt 64 _
effect-bounded Sllw pc a b i h p q = low-lt 64 _
effect-bounded Srlw pc a b i h p q = low-lt 64 _
effect-bounded Subw pc a b i h p q = low-lt 64 _
effect-bounded Sraw pc a b i h p q = shifted_down-lt _ _
effect-bounded Mul pc a b i h p q = omega arith
effect-bounded Mulh pc a b i h p q = shifted_down-lt 64 _
effect-bounded Mulhsu pc a b i h p q = shifted_down-lt 64 _
effect-bounded Mulhu pc a b i h p q = let m = mul-lt a b (2 ^ 64) (2 ^ 64) h p in omega arith
effect-bounded Div pc a b i h p q = low-lt 64 _
effect-bounded Divu pc a b i h p q = low-lt 64 _
effect-bounded Rem pc a b i h p q = low-lt 64 _
effect-bounded Remu pc a b i h p q = low-lt 64 _
effect-bounded Mulw pc a b i h p q = low-lt 64 _
effect-bounded Divw pc a b i h p q = low-lt 64 _
effect-bounded Divuw pc a b i h p q = low-lt 64 _
effect-bounded Remw pc a b i h p q = low-lt 64 _
effect-bounded Remuw pc a b i h p q = low-lt 64 _
effect-bounded _ pc a b i h p q = tt
