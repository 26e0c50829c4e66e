-- Each layout reads back what it writes, both ways.
use Rattle.std.proofs.Common.{◌≡◌, ℕ, ◌+◌, ◌-◌, ◌*◌, ◌/◌, ◌%◌, ◌^◌, ◌<◌, ℤ, pos, negsuc, ◌≤ℤ◌, arith, refl, ap, sym}
use Rattle.std.proofs.Common.{◌∙◌, true, ◌&&◌, ◌==◌, nat_lt, pow_pos, mod-eq_of_lt}
use Rattle.std.proofs.lemmas.Int.{ints}
use Rattle.std.proofs.lemmas.Bool.{and_parts, eqb-true, ltb-true}
use Rattle.tm_table.specs.declared.instr.Op.{Op}
use Rattle.tm_table.specs.declared.table.Layout.{Layout}
use Rattle.tm_table.specs.declared.table.Layout.TheVariants.{R, I, S, B, U, J, Shift6, Shift5, Order, Whole}
use Rattle.tm_table.specs.declared.table.Row.{Row}
use Rattle.tm_table.specs.declared.instr.Instr.{Instr}
use Rattle.tm_table.specs.declared.table.Fields.{Fields}
use Rattle.tm_table.specs.Words.{low, signed, fixes, read_as, parts_as, FitsAs, InRange}
use Rattle.tm_table.proofs.Signs.{low-lt, signed-low_12, signed-low_13, signed-low_21, low-signed_12, low-signed_13}
use Rattle.tm_table.proofs.Signs.{low-signed_21}

-- two instructions of one op with the same parts
same_instr : (i j : Instr) → i.op ≡ j.op → i.rd ≡ j.rd → i.rs1 ≡ j.rs1 → i.rs2 ≡ j.rs2 → i.imm ≡ j.imm → i ≡ j
same_instr i j op rd rs1 rs2 imm = λ t. record { op = op t; rd = rd t; rs1 = rs1 t; rs2 = rs2 t; imm = imm t }

-- a number that no sign has
pos-low : (k : ℕ) (z : ℤ) → pos 0 ≤ℤ z → z ≤ℤ pos (2 ^ k - 1) → pos (low k z) ≡ z
pos-low k (pos n) a b = ap pos (let p : n < 2 ^ k = omega (arith, ints, b, pow_pos k) in mod-eq_of_lt p)
pos-low k (negsuc n) a b = absurd (omega (arith, ints, a))

pub read-parts : (l : Layout) (r : Row) (i : Instr) → FitsAs l i → read_as l i.op (parts_as l r i) ≡ i
read-parts R r i h = same_instr _ i refl refl refl refl (sym h.3)
read-parts I r i h =
    let n = low 12 i.imm in
    let b : n < 2 ^ 12 = low-lt 12 i.imm in
    let e : n % 32 + n / 32 % 2 * 32 + n / 64 * 64 ≡ n = omega arith in
    same_instr _ i refl refl refl (sym h.2) (ap (signed 11) e ∙ signed-low_12 i.imm h.3)
read-parts S r i h =
    let n = low 12 i.imm in
    let b : n < 2 ^ 12 = low-lt 12 i.imm in
    let e : n % 32 + n / 32 % 2 * 32 + n / 64 * 64 ≡ n = omega arith in
    same_instr _ i refl (sym h.0) refl refl (ap (signed 11) e ∙ signed-low_12 i.imm h.3)
read-parts B r i h =
    let n = low 13 i.imm in
    let b : n < 2 ^ 13 = low-lt 13 i.imm in
    let even : n % 2 ≡ 0 = h.4 in
    let f = parts_as B r i in
    let e : f.rd / 2 * 2 + f.bit25 * 32 + f.funct6 % 32 * 64 + f.rd % 2 * 2048 + f.funct6 / 32 * 4096 ≡ n =
    omega arith in
    same_instr _ i refl (sym h.0) refl refl (ap (signed 12) e ∙ signed-low_13 i.imm h.3)
read-parts U r i h =
    let n = low 20 i.imm in
    let b : n < 2 ^ 20 = low-lt 20 i.imm in
    let e : n % 8 + n / 8 % 32 * 8 + n / 256 % 32 * 256 + n / 8192 % 2 * 8192 + n / 16384 * 16384 ≡ n = omega arith in
    same_instr _ i refl refl (sym h.1) (sym h.2) (ap pos e ∙ pos-low 20 i.imm h.3.0 h.3.1)
read-parts J r i h =
    let n = low 21 i.imm in
    let b : n < 2 ^ 21 = low-lt 21 i.imm in
    let even : n % 2 ≡ 0 = h.4 in
    let f = parts_as J r i in
    let e : f.rs2 / 2 * 2 + f.bit25 * 32 + f.funct6 % 32 * 64 + f.rs2 % 2 * 2048 + f.funct3 * 4096 + f.rs1 * 32768
    + f.funct6 / 32 * 1048576 ≡ n = omega arith in
    same_instr _ i refl refl (sym h.1) (sym h.2) (ap (signed 20) e ∙ signed-low_21 i.imm h.3)
read-parts Shift6 r i h =
    let n = low 6 i.imm in
    let e : n % 32 + n / 32 * 32 ≡ n = omega arith in
    same_instr _ i refl refl refl (sym h.2) (ap pos e ∙ pos-low 6 i.imm h.3.0 h.3.1)
read-parts Shift5 r i h = same_instr _ i refl refl refl (sym h.2) (pos-low 5 i.imm h.3.0 h.3.1)
read-parts Order r i h =
    let n = low 8 i.imm in
    let b : n < 2 ^ 8 = low-lt 8 i.imm in
    let e : n % 32 + n / 32 % 2 * 32 + n / 64 * 64 ≡ n = omega arith in
    same_instr _ i refl (sym h.0) (sym h.1) (sym h.2) (ap pos e ∙ pos-low 8 i.imm h.3.0 h.3.1)
read-parts Whole r i h = same_instr _ i refl (sym h.0) (sym h.1) (sym h.2) (sym h.3)

same_fields : (f g : Fields) → f.opcode ≡ g.opcode → f.rd ≡ g.rd → f.funct3 ≡ g.funct3 → f.rs1 ≡ g.rs1 → f.rs2 ≡ g.rs2
    → f.bit25 ≡ g.bit25 → f.funct6 ≡ g.funct6 → f ≡ g
same_fields f g a b c d e h k = λ t. record {
  opcode = a t;
  rd = b t;
  funct3 = c t;
  rs1 = d t;
  rs2 = e t;
  bit25 = h t;
  funct6 = k t;
}

pub parts-read : (l : Layout) (op : Op) (r : Row) (f : Fields) → InRange f → f.opcode ≡ r.opcode → fixes l r f ≡ true
    → parts_as l r (read_as l op f) ≡ f
parts-read R op r f h o x =
    let p = and_parts (f.funct3 == r.funct3 && f.funct6 == r.funct6) (f.bit25 == r.extra) x in
    let q = and_parts (f.funct3 == r.funct3) (f.funct6 == r.funct6) p.0 in
    same_fields _ f (sym o) refl (sym (eqb-true _ _ q.0)) refl refl (sym (eqb-true _ _ p.1)) (sym (eqb-true _ _ q.1))
parts-read I op r f h o x =
    let n = f.rs2 + f.bit25 * 32 + f.funct6 * 64 in
    let b : n < 2 ^ 12 = omega arith in
    let e : low 12 (signed 11 n) ≡ n = low-signed_12 n b in
    same_fields _ f (sym o) refl (sym (eqb-true _ _ x)) refl (ap (λ m. m % 32) e ∙ omega arith)
    (ap (λ m. m / 32 % 2) e ∙ omega arith) (ap (λ m. m / 64) e ∙ omega arith)
parts-read S op r f h o x =
    let n = f.rd + f.bit25 * 32 + f.funct6 * 64 in
    let b : n < 2 ^ 12 = omega arith in
    let e : low 12 (signed 11 n) ≡ n = low-signed_12 n b in
    same_fields _ f (sym o) (ap (λ m. m % 32) e ∙ omega arith) (sym (eqb-true _ _ x)) refl refl
    (ap (λ m. m / 32 % 2) e ∙ omega arith) (ap (λ m. m / 64) e ∙ omega arith)
parts-read B op r f h o x =
    let n = f.rd / 2 * 2 + f.bit25 * 32 + f.funct6 % 32 * 64 + f.rd % 2 * 2048 + f.funct6 / 32 * 4096 in
    let b : n < 2 ^ 13 = omega arith in
    let e : low 13 (signed 12 n) ≡ n = low-signed_13 n b in
    same_fields _ f (sym o) (ap (λ m. m / 2 % 16 * 2 + m / 2048 % 2) e ∙ omega arith) (sym (eqb-true _ _ x)) refl refl
    (ap (λ m. m / 32 % 2) e ∙ omega arith) (ap (λ m. m / 64 % 32 + m / 4096 * 32) e ∙ omega arith)
parts-read U op r f h o x =
    let n = f.funct3 + f.rs1 * 8 + f.rs2 * 256 + f.bit25 * 8192 + f.funct6 * 16384 in
    let b : n < 2 ^ 20 = omega arith in
    let e : n % 2 ^ 20 ≡ n = mod-eq_of_lt b in
    same_fields _ f (sym o) refl (ap (λ m. m % 8) e ∙ omega arith) (ap (λ m. m / 8 % 32) e ∙ omega arith)
    (ap (λ m. m / 256 % 32) e ∙ omega arith) (ap (λ m. m / 8192 % 2) e ∙ omega arith)
    (ap (λ m. m / 16384) e ∙ omega arith)
parts-read J op r f h o x =
    let n = f.rs2 / 2 * 2 + f.bit25 * 32 + f.funct6 % 32 * 64 + f.rs2 % 2 * 2048 + f.funct3 * 4096 + f.rs1 * 32768
    + f.funct6 / 32 * 1048576 in
    let b : n < 2 ^ 21 = omega arith in
    let e : low 21 (signed 20 n) ≡ n = low-signed_21 n b in
    same_fields _ f (sym o) refl (ap (λ m. m / 4096 % 8) e ∙ omega arith) (ap (λ m. m / 32768 % 32) e ∙ omega arith)
    (ap (λ m. m / 2 % 16 * 2 + m / 2048 % 2) e ∙ omega arith) (ap (λ m. m / 32 % 2) e ∙ omega arith)
    (ap (λ m. m / 64 % 32 + m / 1048576 * 32) e ∙ omega arith)
parts-read Shift6 op r f h o x =
    let q = and_parts (f.funct3 == r.funct3) (f.funct6 == r.funct6) x in
    let n = f.rs2 + f.bit25 * 32 in
    let b : n < 2 ^ 6 = omega arith in
    let e : n % 2 ^ 6 ≡ n = mod-eq_of_lt b in
    same_fields _ f (sym o) refl (sym (eqb-true _ _ q.0)) refl (ap (λ m. m % 32) e ∙ omega arith)
    (ap (λ m. m / 32) e ∙ omega arith) (sym (eqb-true _ _ q.1))
parts-read Shift5 op r f h o x =
    let p = and_parts (f.funct3 == r.funct3 && f.funct6 == r.funct6) (f.bit25 == 0) x in
    let q = and_parts (f.funct3 == r.funct3) (f.funct6 == r.funct6) p.0 in
    same_fields _ f (sym o) refl (sym (eqb-true _ _ q.0)) refl (omega arith) (sym (eqb-true _ _ p.1))
    (sym (eqb-true _ _ q.1))
parts-read Order op r f h o x =
    let p = and_parts (f.funct3 == r.funct3 && f.rd == 0 && f.rs1 == 0) (nat_lt f.funct6 4) x in
    let q = and_parts (f.funct3 == r.funct3 && f.rd == 0) (f.rs1 == 0) p.0 in
    let w = and_parts (f.funct3 == r.funct3) (f.rd == 0) q.0 in
    let n = f.rs2 + f.bit25 * 32 + f.funct6 * 64 in
    let c : f.funct6 < 4 = ltb-true _ _ p.1 in
    let b : n < 2 ^ 8 = omega arith in
    let e : n % 2 ^ 8 ≡ n = mod-eq_of_lt b in
    same_fields _ f (sym o) (sym (eqb-true _ _ w.1)) (sym (eqb-true _ _ w.0)) (sym (eqb-true _ _ q.1))
    (ap (λ m. m % 32) e ∙ omega arith) (ap (λ m. m / 32 % 2) e ∙ omega arith) (ap (λ m. m / 64) e ∙ omega arith)
parts-read Whole op r f h o x =
    let a = and_parts (f.funct3 == r.funct3 && f.rd == 0 && f.rs1 == 0 && f.rs2 == r.extra && f.funct6 == r.funct6)
    (f.bit25 == 0) x in
    let b = and_parts (f.funct3 == r.funct3 && f.rd == 0 && f.rs1 == 0 && f.rs2 == r.extra) (f.funct6 == r.funct6) a.0
    in
    let c = and_parts (f.funct3 == r.funct3 && f.rd == 0 && f.rs1 == 0) (f.rs2 == r.extra) b.0 in
    let d = and_parts (f.funct3 == r.funct3 && f.rd == 0) (f.rs1 == 0) c.0 in
    let e = and_parts (f.funct3 == r.funct3) (f.rd == 0) d.0 in
    same_fields _ f (sym o) (sym (eqb-true _ _ e.1)) (sym (eqb-true _ _ e.0)) (sym (eqb-true _ _ d.1))
    (sym (eqb-true _ _ c.1)) (sym (eqb-true _ _ a.1)) (sym (eqb-true _ _ b.1))
