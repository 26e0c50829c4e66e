-- What a step leaves with the change that a script makes to it, by the effect of its instruction.
use Rattle.std.proofs.Common.{◌≡◌, ℕ, ◌*◌, ◌%◌, ◌^◌, ◌<◌, Bool, true, false, refl, sym, ap, subst, ◌∙◌}
use Rattle.std.specs.Prelude.{bit_xor, if◌then◌else◌}
use Rattle.std.specs.Int.Bits.{xor_assoc, xor_self, xor_zero_r}
use Rattle.std.proofs.lemmas.Nat.{xor_lt}
use Rattle.tm_table.specs.declared.instr.Instr.{Instr}
use Rattle.tm_table.specs.declared.instr.Op.{Op}
use Rattle.tm_table.specs.declared.instr.Op.TheVariants.{Lui, Auipc, Jal, Jalr, Beq, Bne, Blt, Bge, Bltu, Bgeu, Lb}
use Rattle.tm_table.specs.declared.instr.Op.TheVariants.{Lh, Lw, Ld, Lbu, Lhu, Lwu, Sb, Sh, Sw, Sd, Addi, Slti, Sltiu}
use Rattle.tm_table.specs.declared.instr.Op.TheVariants.{Xori, Ori, Andi, Slli, Srli, Srai, Add, Sll, Slt, Sltu, Xor}
use Rattle.tm_table.specs.declared.instr.Op.TheVariants.{Srl, Or, And, Sub, Sra, Addiw, Slliw, Srliw, Sraiw, Addw}
use Rattle.tm_table.specs.declared.instr.Op.TheVariants.{Sllw, Srlw, Subw, Sraw, Fence, Ecall, Ebreak, Mul, Mulh}
use Rattle.tm_table.specs.declared.instr.Op.TheVariants.{Mulhsu, Mulhu, Div, Divu, Rem, Remu, Mulw, Divw, Divuw, Remw}
use Rattle.tm_table.specs.declared.instr.Op.TheVariants.{Remuw}
use Rattle.tm_table.specs.declared.state.Access.{Access}
use Rattle.tm_table.specs.declared.state.Access.TheVariants.{Quiet, Read, Write}
use Rattle.tm_table.specs.State.{Hart}
use Rattle.tm_table.specs.Words.{low}
use Rattle.tm_table.specs.Row.{Effect, Gives, Loads, Stores, Branches, Jumps, effect, effect_at, after, HasWidth}
use Rattle.tm_plan_map.specs.Slots.{load_width, store_width}
use Rattle.tm_ram.specs.Region.{Region}
use Rattle.tm_world.specs.Run.{Reads, read_value, HasShape}
use Rattle.tm_world.specs.Kinds.{IsPossible}
use Rattle.tm_world.specs.Faulted.{Change, access_by, unloaded, state_by}
use Rattle.tm_guest.specs.Memory.{LoadsExactly, owed_of}
use Rattle.tm_guest.specs.Making.{FitsOp, IsMade}
use Rattle.tm_guest.proofs.Acts.{fitting, low-fits, row-made}
use Rattle.tm_guest.proofs.Bytes.{xor-twice}

-- ---- widths

-- an effect's width is its op's
abbrev WidthOf : Op → Effect → Type 0
WidthOf op (Loads addr width with_sign) = width ≡ load_width op
WidthOf op (Stores addr width value) = width ≡ store_width op
WidthOf op (Gives value) = Unit {0}
WidthOf op (Branches taken) = Unit {0}
WidthOf op (Jumps link target) = Unit {0}

width-of : (op : Op) (pc a b n : ℕ) → WidthOf op (effect op pc a b n)
unfolding effect
width-of Lui pc a b n = tt
width-of Auipc pc a b n = tt
width-of Jal pc a b n = tt
width-of Jalr pc a b n = tt
width-of Beq pc a b n = tt
width-of Bne pc a b n = tt
width-of Blt pc a b n = tt
width-of Bge pc a b n = tt
width-of Bltu pc a b n = tt
width-of Bgeu pc a b n = tt
width-of Lb pc a b n = refl
width-of Lh pc a b n = refl
width-of Lw pc a b n = refl
width-of Ld pc a b n = refl
width-of Lbu pc a b n = refl
width-of Lhu pc a b n = refl
width-of Lwu pc a b n = refl
width-of Sb pc a b n = refl
width-of Sh pc a b n = refl
width-of Sw pc a b n = refl
width-of Sd pc a b n = refl
width-of Addi pc a b n = tt
width-of Slti pc a b n = tt
width-of Sltiu pc a b n = tt
width-of Xori pc a b n = tt
width-of Ori pc a b n = tt
width-of Andi pc a b n = tt
width-of Slli pc a b n = tt
width-of Srli pc a b n = tt
width-of Srai pc a b n = tt
width-of Add pc a b n = tt
width-of Sll pc a b n = tt
width-of Slt pc a b n = tt
width-of Sltu pc a b n = tt
width-of Xor pc a b n = tt
width-of Srl pc a b n = tt
width-of Or pc a b n = tt
width-of And pc a b n = tt
width-of Sub pc a b n = tt
width-of Sra pc a b n = tt
width-of Addiw pc a b n = tt
width-of Slliw pc a b n = tt
width-of Srliw pc a b n = tt
width-of Sraiw pc a b n = tt
width-of Addw pc a b n = tt
width-of Sllw pc a b n = tt
width-of Srlw pc a b n = tt
width-of Subw pc a b n = tt
width-of Sraw pc a b n = tt
width-of Fence pc a b n = tt
width-of Ecall pc a b n = tt
width-of Ebreak pc a b n = tt
width-of Mul pc a b n = tt
width-of Mulh pc a b n = tt
width-of Mulhsu pc a b n = tt
width-of Mulhu pc a b n = tt
width-of Div pc a b n = tt
width-of Divu pc a b n = tt
width-of Rem pc a b n = tt
width-of Remu pc a b n = tt
width-of Mulw pc a b n = tt
width-of Divw pc a b n = tt
width-of Divuw pc a b n = tt
width-of Remw pc a b n = tt
width-of Remuw pc a b n = tt

-- ---- what a change makes of an access

pub possible-by : (ch : Change) (a : Access) → IsPossible a → IsPossible (access_by ch a)
possible-by ch Quiet h = tt
possible-by ch (Read addr width value) h = h
possible-by ch (Write addr width value) h = by ch.drops
  where
    by : (b : Bool) → IsPossible (if b then Quiet else Write addr width (bit_xor value ch.stored))
    by true = tt
    by false = h

pub possible-unloaded : (ch : Change) (a : Access) → IsPossible a → IsPossible (unloaded ch a)
possible-unloaded ch Quiet h = tt
possible-unloaded ch (Read addr width value) h = h
possible-unloaded ch (Write addr width value) h = h

-- what it reads stays
pub read-by : (ch : Change) (a : Access) → read_value (access_by ch a) ≡ read_value a
read-by ch Quiet = refl
read-by ch (Read addr width value) = refl
read-by ch (Write addr width value) = by ch.drops
  where
    by : (b : Bool) → read_value (if b then Quiet else Write addr width (bit_xor value ch.stored)) ≡ 0
    by true = refl
    by false = refl

-- what memory gave fits the width of a load
abbrev ReadFits : Effect → ℕ → Type 0
ReadFits (Loads addr width with_sign) read = read < 2 ^ (8 * width)
ReadFits _ read = Unit {0}

xored-fits : (ch : Change) (op : Op) (r : Region) (e : Effect) (value : ℕ) → WidthOf op e → FitsOp ch op
    → LoadsExactly r e value → ReadFits e (bit_xor value ch.loaded)
xored-fits ch op r (Loads addr width with_sign) value wide fits l =
    xor_lt (8 * width) value ch.loaded l.0 (subst (λ (w : ℕ). ch.loaded < 2 ^ (8 * w)) (sym wide) fits.loaded)
xored-fits ch op r (Gives given) value wide fits l = tt
xored-fits ch op r (Stores addr width stored) value wide fits l = tt
xored-fits ch op r (Branches taken) value wide fits l = tt
xored-fits ch op r (Jumps link target) value wide fits l = tt

shape-clean : (e : Effect) (hart : Hart) (rd n read : ℕ) → HasWidth e → ReadFits e read
    → HasShape (after e hart rd n read).1
unfolding after
shape-clean (Loads addr width with_sign) hart rd n read w l = fitting width read w l
shape-clean (Stores addr width value) hart rd n read w l = fitting width _ w (low-fits width value w)
shape-clean (Gives value) hart rd n read w l = tt
shape-clean (Branches taken) hart rd n read w l = tt
shape-clean (Jumps link target) hart rd n read w l = tt

shape-changed : (ch : Change) (op : Op) (e : Effect) (hart : Hart) (rd n read : ℕ) → WidthOf op e → FitsOp ch op
    → HasWidth e → ReadFits e read → HasShape (access_by ch (after e hart rd n read).1)
unfolding after
shape-changed ch op (Loads addr width with_sign) hart rd n read wide fits w l = fitting width read w l
shape-changed ch op (Stores addr width value) hart rd n read wide fits w l = by ch.drops
  where
    stored : ch.stored < 2 ^ (8 * width)
    stored = subst (λ (k : ℕ). ch.stored < 2 ^ (8 * k)) (sym wide) fits.stored

    by : (b : Bool) → HasShape (if b then Quiet else Write addr width (bit_xor (value % 2 ^ (8 * width)) ch.stored))
    by true = tt
    by false = fitting width _ w (xor_lt (8 * width) _ ch.stored (low-fits width value w) stored)
shape-changed ch op (Gives value) hart rd n read wide fits w l = tt
shape-changed ch op (Branches taken) hart rd n read wide fits w l = tt
shape-changed ch op (Jumps link target) hart rd n read wide fits w l = tt

reads-changed : (ch : Change) (r : Region) (e : Effect) (hart : Hart) (rd n value : ℕ) → LoadsExactly r e value
    → Reads (owed_of r) (unloaded ch (after e hart rd n (bit_xor value ch.loaded)).1)
unfolding after
reads-changed ch r (Loads addr width with_sign) hart rd n value l =
    subst (λ (v : ℕ). Reads (owed_of r) (Read addr width v)) (sym (xor-twice value ch.loaded)) l.1
reads-changed ch r (Gives given) hart rd n value l = tt
reads-changed ch r (Stores addr width stored) hart rd n value l = tt
reads-changed ch r (Branches taken) hart rd n value l = tt
reads-changed ch r (Jumps link target) hart rd n value l = tt

-- ---- a step

width-at : (hart : Hart) (i : Instr) (e : Effect) → e ≡ effect_at hart i → WidthOf i.op e
width-at hart i e is = subst (WidthOf i.op) (sym is) (width-of i.op _ _ _ _)

-- a step that is changed
pub made-changed : (ch : Change) (before next left : Hart) (i : Instr) (r : Region) (e : Effect) (value read : ℕ)
    (clean does : Access) → e ≡ effect_at before i → HasWidth e → LoadsExactly r e value → FitsOp ch i.op
    → read ≡ bit_xor value ch.loaded → next ≡ (after e before i.rd (low 64 i.imm) read).0
    → clean ≡ (after e before i.rd (low 64 i.imm) read).1 → does ≡ access_by ch clean → left ≡ state_by ch i before next
    → IsMade ch before i r does left × HasShape does
made-changed ch before next left i r e value read clean does is wide loads fits xored state access changed leaves =
    let n = low 64 i.imm in
    let width = width-at before i e is in
    let fit = subst (ReadFits e) (sym xored) (xored-fits ch i.op r e value width fits loads) in
    let reads = reads-changed ch r e before i.rd n value loads in (
      record {
        clean = clean;
        next = next;
        made = row-made before next i e read clean is state access;
        shape = subst HasShape (sym access) (shape-clean e before i.rd n read wide fit);
        reads = subst (λ (a : Access). Reads (owed_of r) (unloaded ch a))
            (ap (λ (v : ℕ). (after e before i.rd n v).1) (sym xored) ∙ sym access) reads;
        access = changed;
        state = leaves;
      },
      subst HasShape (sym (changed ∙ ap (access_by ch) access))
          (shape-changed ch i.op e before i.rd n read width fits wide fit),
    )
