-- What the rows of the table have in common: fields in range, and effects on dwords alone.
use Rattle.std.proofs.Common.{◌≡◌, ℕ, ◌+◌, ◌^◌, ◌<◌, ℤ, pos, negsuc, false, Option, None, Some, ◌⊎◌, inl, inr, refl}
use Rattle.std.proofs.Common.{sym, ap, subst, arith, option_map}
use Rattle.std.specs.Prelude.{◌≤ℤ◌}
use Rattle.std.proofs.lemmas.Int.{ints}
use Rattle.tm_table.specs.declared.instr.Op.{Op}
use Rattle.tm_table.specs.declared.instr.Op.TheVariants.{Jal, Jalr, Lb, Lh, Lw, Ld, Lbu, Lhu, Lwu, Sb, Sh, Sw, Sd}
use Rattle.tm_table.specs.declared.instr.Instr.{Instr}
use Rattle.tm_table.specs.declared.table.Layout.{Layout}
use Rattle.tm_table.specs.declared.table.Layout.TheVariants.{R, I, S, B, U, J, Shift6, Shift5, Order, Whole}
use Rattle.tm_table.specs.declared.state.Access.{Access}
use Rattle.tm_table.specs.State.{Hart}
use Rattle.tm_table.specs.Table.{row_of}
use Rattle.tm_table.specs.Words.{low, split, decoded, word_of, FitsAs, Fits}
use Rattle.tm_table.specs.Row.{Effect, Gives, Loads, Stores, Branches, Jumps, effect, word64, row, row_word}
use Rattle.tm_table.proofs.Decoding.{word-decoded}
use Rattle.tm_plan_map.specs.Slots.{instr_of}
use Rattle.tm_runs.specs.Machine.{target}

-- less than 2 MiB on or back
abbrev pub IsNear : ℤ → Type 0
IsNear (pos n) = n < 2097152
IsNear (negsuc n) = n < 2097152

-- registers that there are, and a jump that isn't far
pub record InReach (i : Instr) : Type 0 where
  pub rd : i.rd < 32
  pub rs1 : i.rs1 < 32
  pub rs2 : i.rs2 < 32
  pub imm : IsNear i.imm

near : (z : ℤ) (a b : ℕ) → a < 2097152 → b < 2097152 → (negsuc a ≤ℤ z) × (z ≤ℤ pos b) → IsNear z
near (pos n) a b p q h = omega (arith, ints, h)
near (negsuc n) a b p q h = omega (arith, ints, h)

zero-near : (z : ℤ) → z ≡ pos 0 → IsNear z
zero-near z e = subst IsNear (sym e) (omega arith)

from-near : (z : ℤ) (b : ℕ) → b < 2097152 → (pos 0 ≤ℤ z) × (z ≤ℤ pos b) → IsNear z
from-near (pos n) b q h = omega (arith, ints, h)
from-near (negsuc n) b q h = omega (arith, ints, h)

reach-as : (l : Layout) (i : Instr) → FitsAs l i → InReach i
reach-as R i h = record { rd = h.0; rs1 = h.1; rs2 = h.2; imm = zero-near i.imm h.3 }
reach-as I i h = record {
  rd = h.0;
  rs1 = h.1;
  rs2 = omega (arith, h.2);
  imm = near i.imm 2047 2047 (omega arith) (omega arith) h.3;
}
reach-as S i h = record {
  rd = omega (arith, h.0);
  rs1 = h.1;
  rs2 = h.2;
  imm = near i.imm 2047 2047 (omega arith) (omega arith) h.3;
}
reach-as B i h = record {
  rd = omega (arith, h.0);
  rs1 = h.1;
  rs2 = h.2;
  imm = near i.imm 4095 4095 (omega arith) (omega arith) h.3;
}
reach-as U i h = record {
  rd = h.0;
  rs1 = omega (arith, h.1);
  rs2 = omega (arith, h.2);
  imm = from-near i.imm 1048575 (omega arith) h.3;
}
reach-as J i h = record {
  rd = h.0;
  rs1 = omega (arith, h.1);
  rs2 = omega (arith, h.2);
  imm = near i.imm 1048575 1048575 (omega arith) (omega arith) h.3;
}
reach-as Shift6 i h = record {
  rd = h.0;
  rs1 = h.1;
  rs2 = omega (arith, h.2);
  imm = from-near i.imm 63 (omega arith) h.3;
}
reach-as Shift5 i h = record {
  rd = h.0;
  rs1 = h.1;
  rs2 = omega (arith, h.2);
  imm = from-near i.imm 31 (omega arith) h.3;
}
reach-as Order i h = record {
  rd = omega (arith, h.0);
  rs1 = omega (arith, h.1);
  rs2 = omega (arith, h.2);
  imm = from-near i.imm 255 (omega arith) h.3;
}
reach-as Whole i h = record {
  rd = omega (arith, h.0);
  rs1 = omega (arith, h.1);
  rs2 = omega (arith, h.2);
  imm = zero-near i.imm h.3;
}

reach : (i : Instr) → Fits i → InReach i
unfolding Fits
reach i h = reach-as (row_of i.op).layout i h

-- the word of a decoded instruction, which is in reach
pub word-reach : (w : ℕ) (i : Instr) → w < 2 ^ 32 → instr_of w ≡ Some i → InReach i × (word_of i ≡ w)
unfolding instr_of
word-reach w i b e = let f = word-decoded w i b e in (reach i f.0, f.1)

-- a row's word is that of an instruction, of which it is the step
pub row-decoded : (hart : Hart) (w read : ℕ) (after : Hart) (access : Access) → row_word hart w read
    ≡ Some (after, access) → (i : Instr) × (instr_of w ≡ Some i) × (row hart i read ≡ (after, access))
unfolding instr_of row_word
row-decoded hart w read after access e = by (decoded (split w)) refl e
  where
    by : (o : Option Instr) → decoded (split w) ≡ o → option_map (λ (i : Instr). row hart i read) o
        ≡ Some (after, access) → (i : Instr) × (decoded (split w) ≡ Some i) × (row hart i read ≡ (after, access))
    by None d e' = cc
    by (Some i) d e' = let s : ◌≡◌ {A = Hart × Access} (row hart i read) (after, access) = cc in (i, d, s)

pub decoded-row : (hart : Hart) (w read : ℕ) (i : Instr) → instr_of w ≡ Some i → row_word hart w read
    ≡ Some (row hart i read)
unfolding instr_of row_word
decoded-row hart w read i e = ap (option_map (λ (j : Instr). row hart j read)) e

-- an effect on dwords or on less, and of JAL alone a jump from pc by n
abbrev pub IsPlain : Op → ℕ → ℕ → Effect → Type 0
IsPlain op pc n (Gives value) = Unit {0}
IsPlain op pc n (Loads addr width with_sign) = ((width ≡ 8) × (with_sign ≡ false)) ⊎ (width < 8)
IsPlain op pc n (Stores addr width value) = (width ≡ 8) ⊎ (width < 8)
IsPlain op pc n (Branches taken) = Unit {0}
IsPlain op pc n (Jumps link goes) = (link ≡ word64 (pc + 4)) × ((op ≡ Jalr) ⊎ ((op ≡ Jal) × (goes ≡ word64 (pc + n))))

pub plain : (op : Op) (pc a b n : ℕ) → IsPlain op pc n (effect op pc a b n)
unfolding effect
plain Lb pc a b n = inr (omega arith)
plain Lh pc a b n = inr (omega arith)
plain Lw pc a b n = inr (omega arith)
plain Ld pc a b n = inl (refl, refl)
plain Lbu pc a b n = inr (omega arith)
plain Lhu pc a b n = inr (omega arith)
plain Lwu pc a b n = inr (omega arith)
plain Sb pc a b n = inr (omega arith)
plain Sh pc a b n = inr (omega arith)
plain Sw pc a b n = inr (omega arith)
plain Sd pc a b n = inl refl
plain Jal pc a b n = (refl, inr (refl, refl))
plain Jalr pc a b n = (refl, inl refl)
plain _ pc a b n = tt

-- where a jump goes, without a number that wraps
pub target-word64 : (pc : ℕ) (z : ℤ) → 2097152 < pc → pc < 2 ^ 63 → IsNear z → word64 (pc + low 64 z) ≡ target pc z
target-word64 pc (pos n) p q h = omega arith
target-word64 pc (negsuc n) p q h = omega arith
