-- Steps: their registers, widths and reads, and what they write.
use Rattle.std.proofs.Common.{◌≡◌, ◌≢◌, ◌↔◌, ℕ, zero, suc, ◌<◌, List, IsSome, IfSome, IsTrue, refl, sym, subst, arith}
use Rattle.std.proofs.Common.{inl, inr}
use Rattle.std.specs.Prelude.{slice_set}
use Rattle.tm_table.specs.declared.instr.Op.{Op}
use Rattle.tm_table.specs.declared.instr.Op.TheVariants.{Lb, Lbu, Sb, Lh, Lhu, Sh, Lw, Lwu, Sw, Ld, Sd}
use Rattle.tm_table.specs.declared.instr.Instr.{Instr}
use Rattle.tm_table.specs.declared.table.Layout.{Layout}
use Rattle.tm_table.specs.declared.table.Layout.TheVariants.{R, I, S, B, U, J, Shift6, Shift5, Order, Whole}
use Rattle.tm_table.specs.State.{Hart}
use Rattle.tm_table.specs.Table.{row_of}
use Rattle.tm_table.specs.Words.{FitsAs, Fits}
use Rattle.tm_table.specs.Row.{Effect, Gives, Loads, Stores, Branches, Jumps, put, effect, effect_at, after, row}
use Rattle.tm_table.specs.Row.{IsWidth, HasWidth, read_in, loads, read_at, is_load}

-- ---- registers

-- registers that there are
pub record HasRegisters (i : Instr) : Type 0 where
  pub rd : i.rd < 32
  pub rs1 : i.rs1 < 32
  pub rs2 : i.rs2 < 32

has_registers : (l : Layout) (i : Instr) → FitsAs l i → HasRegisters i
has_registers R i h = record { rd = h.0; rs1 = h.1; rs2 = h.2 }
has_registers I i h = record { rd = h.0; rs1 = h.1; rs2 = omega (arith, h.2) }
has_registers S i h = record { rd = omega (arith, h.0); rs1 = h.1; rs2 = h.2 }
has_registers B i h = record { rd = omega (arith, h.0); rs1 = h.1; rs2 = h.2 }
has_registers U i h = record { rd = h.0; rs1 = omega (arith, h.1); rs2 = omega (arith, h.2) }
has_registers J i h = record { rd = h.0; rs1 = omega (arith, h.1); rs2 = omega (arith, h.2) }
has_registers Shift6 i h = record { rd = h.0; rs1 = h.1; rs2 = omega (arith, h.2) }
has_registers Shift5 i h = record { rd = h.0; rs1 = h.1; rs2 = omega (arith, h.2) }
has_registers Order i h = record { rd = omega (arith, h.0); rs1 = omega (arith, h.1); rs2 = omega (arith, h.2) }
has_registers Whole i h = record { rd = omega (arith, h.0); rs1 = omega (arith, h.1); rs2 = omega (arith, h.2) }

pub registers : (i : Instr) → Fits i → HasRegisters i
unfolding Fits
registers i h = has_registers (row_of i.op).layout i h

pub target : (i : Instr) → Fits i → i.rd < 32
target i h = (registers i h).rd

pub ruleset targets = (target)

pub put-other : (x : List ℕ) (r n : ℕ) → r ≢ 0 → put x r n ≡ slice_set x r n
unfolding put
put-other x zero n h = absurd (h refl)
put-other x (suc r) n h = refl

pub put-zero : (x : List ℕ) (r n : ℕ) → r ≡ 0 → put x r n ≡ x
unfolding put
put-zero x zero n h = refl
put-zero x (suc r) n h = absurd (omega arith)

pub ruleset puts = (put-other, put-zero)

-- ---- accesses

effect-width : (op : Op) (pc a b i : ℕ) → HasWidth (effect op pc a b i)
unfolding effect
effect-width Lb pc a b i = inl refl
effect-width Lbu pc a b i = inl refl
effect-width Sb pc a b i = inl refl
effect-width Lh pc a b i = inr (inl refl)
effect-width Lhu pc a b i = inr (inl refl)
effect-width Sh pc a b i = inr (inl refl)
effect-width Lw pc a b i = inr (inr (inl refl))
effect-width Lwu pc a b i = inr (inr (inl refl))
effect-width Sw pc a b i = inr (inr (inl refl))
effect-width Ld pc a b i = inr (inr (inr refl))
effect-width Sd pc a b i = inr (inr (inr refl))
effect-width _ pc a b i = tt

pub has-width : (hart : Hart) (i : Instr) (e : Effect) → e ≡ effect_at hart i → HasWidth e
has-width hart i e is = subst HasWidth (sym is) (effect-width i.op _ _ _ _)

width_in : (e : Effect) → HasWidth e → IfSome (loads e) (λ (p : ℕ × ℕ). IsWidth p.1)
width_in (Gives value) h = tt
width_in (Loads addr width with_sign) h = h
width_in (Stores addr width value) h = tt
width_in (Branches taken) h = tt
width_in (Jumps link target) h = tt

pub read-width : (hart : Hart) (i : Instr) → IfSome (read_at hart i) (λ (p : ℕ × ℕ). IsWidth p.1)
unfolding read_at
read-width hart i = width_in (effect_at hart i) (has-width hart i _ refl)

-- the read of a step doesn't depend on the bytes
reads-after : (e : Effect) (hart : Hart) (rd i bytes : ℕ) → loads e ≡ read_in (after e hart rd i bytes).1
unfolding after
reads-after (Gives value) hart rd i bytes = refl
reads-after (Loads addr width with_sign) hart rd i bytes = refl
reads-after (Stores addr width value) hart rd i bytes = refl
reads-after (Branches taken) hart rd i bytes = refl
reads-after (Jumps link target) hart rd i bytes = refl

pub read-row : (hart : Hart) (i : Instr) (bytes : ℕ) → read_at hart i ≡ read_in (row hart i bytes).1
unfolding read_at row
read-row hart i bytes = reads-after (effect_at hart i) hart i.rd _ bytes

-- loads alone read
reads_load : (op : Op) (pc a b i : ℕ) → IsSome (loads (effect op pc a b i)) ↔ IsTrue (is_load op)
unfolding effect
reads_load Lb pc a b i = (λ h. h, λ h. h)
reads_load _ pc a b i = (λ h. h, λ h. h)

pub read-load : (hart : Hart) (i : Instr) → IsSome (read_at hart i) ↔ IsTrue (is_load i.op)
unfolding read_at
read-load hart i = reads_load i.op _ _ _ _
