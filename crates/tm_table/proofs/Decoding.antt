-- Decoding and encoding undo each other.
use Rattle.std.proofs.Common.{◌≡◌, ℕ, ◌-◌, ◌%◌, ◌^◌, ◌<◌, pos, negsuc, arith, refl, ap, sym, subst, ◌∙◌, Bool, true}
use Rattle.std.proofs.Common.{false, cond, ◌&&◌, ◌==◌, nat_lt, List, [], ◌∷◌, map, find, Option, Some, None}
use Rattle.std.proofs.Common.{option_map}
use Rattle.std.proofs.lemmas.Bool.{and_parts, eqb-true, ltb-true, ltb-false, cond_both}
use Rattle.std.proofs.lemmas.Int.{ints}
use Rattle.tm_table.specs.declared.instr.Op.{Op}
use Rattle.tm_table.specs.declared.table.Layout.{Layout}
use Rattle.tm_table.specs.declared.table.Layout.TheVariants.{R, I, S, B, U, J, Shift6, Shift5, Order, Whole}
use Rattle.tm_table.specs.declared.table.Row.{Row}
use Rattle.tm_table.specs.declared.instr.Instr.{Instr}
use Rattle.tm_table.specs.declared.table.Fields.{Fields}
use Rattle.tm_table.specs.Table.{row_of, ops, table}
use Rattle.tm_table.specs.Words.{split, join, word_of, low, signed, fixes, is_of, decoded, read_as, parts_as}
use Rattle.tm_table.specs.Words.{parts_of, FitsAs, Fits, InRange, From}
use Rattle.tm_table.proofs.Signs.{low-lt, low-signed_13, low-signed_21}
use Rattle.tm_table.proofs.Fields.{join-split, split-join, split-in_range, join-lt}
use Rattle.tm_table.proofs.Layouts.{read-parts, parts-read}
use Rattle.tm_table.proofs.Own.{own_row, row-op, row-right}

-- ---- a search

found : {A B : Type 0} (g : A → B) (test : B → Bool) (xs : List A) (y : B) → find test (map g xs) ≡ Some y → (x : A)
    × (y ≡ g x) × (test y ≡ true)
found g test [] y e = cc
found g test (x ∷ xs) y e = go (test (g x)) refl e (found g test xs y)
  where
    go : (b : Bool) → test (g x) ≡ b → cond b (Some (g x)) (find test (map g xs)) ≡ Some y
        → (find test (map g xs) ≡ Some y → (x' : _) × (y ≡ g x') × (test y ≡ true)) → (x' : _) × (y ≡ g x')
        × (test y ≡ true)
    go true t e' below = let same : g x ≡ y = cc in (x, sym same, subst (λ z. test z ≡ true) same t)
    go false t e' below = below e'

-- ---- what is read fits

signed-from_11 : (n : ℕ) → n < 2 ^ 12 → From (negsuc 2047) (pos 2047) (signed 11 n)
signed-from_11 n h = cond_both (nat_lt n (2 ^ 11)) (pos n) (negsuc (2 ^ 12 - 1 - n))
    (λ z. From (negsuc 2047) (pos 2047) z) (λ e. omega (arith, ints, ltb-true)) (λ e. omega (arith, ints, ltb-false))

signed-from_12 : (n : ℕ) → n < 2 ^ 13 → From (negsuc 4095) (pos 4095) (signed 12 n)
signed-from_12 n h = cond_both (nat_lt n (2 ^ 12)) (pos n) (negsuc (2 ^ 13 - 1 - n))
    (λ z. From (negsuc 4095) (pos 4095) z) (λ e. omega (arith, ints, ltb-true)) (λ e. omega (arith, ints, ltb-false))

signed-from_20 : (n : ℕ) → n < 2 ^ 21 → From (negsuc 1048575) (pos 1048575) (signed 20 n)
signed-from_20 n h = cond_both (nat_lt n (2 ^ 20)) (pos n) (negsuc (2 ^ 21 - 1 - n))
    (λ z. From (negsuc 1048575) (pos 1048575) z) (λ e. omega (arith, ints, ltb-true))
    (λ e. omega (arith, ints, ltb-false))

pub fits-read : (l : Layout) (op : Op) (r : Row) (f : Fields) → InRange f → fixes l r f ≡ true
    → FitsAs l (read_as l op f)
fits-read R op r f h x = (h.rd, h.rs1, h.rs2, refl)
fits-read I op r f h x = (h.rd, h.rs1, refl, signed-from_11 _ (omega arith))
fits-read S op r f h x = (refl, h.rs1, h.rs2, signed-from_11 _ (omega arith))
fits-read B op r f h x = (
  refl,
  h.rs1,
  h.rs2,
  signed-from_12 _ (omega arith),
  ap (λ m. m % 2) (low-signed_13 _ (omega arith)) ∙ omega arith,
)
fits-read U op r f h x = (h.rd, refl, refl, omega (arith, ints))
fits-read J op r f h x = (
  h.rd,
  refl,
  refl,
  signed-from_20 _ (omega arith),
  ap (λ m. m % 2) (low-signed_21 _ (omega arith)) ∙ omega arith,
)
fits-read Shift6 op r f h x = (h.rd, h.rs1, refl, omega (arith, ints))
fits-read Shift5 op r f h x = (h.rd, h.rs1, refl, omega (arith, ints))
fits-read Order op r f h x =
    let p = and_parts (f.funct3 == r.funct3 && f.rd == 0 && f.rs1 == 0) (nat_lt f.funct6 4) x in
    let c : f.funct6 < 4 = ltb-true _ _ p.1 in
    (refl, refl, refl, omega (arith, ints))
fits-read Whole op r f h x = (refl, refl, refl, refl)

-- ---- both ways, on parts

decoded-parts : (i : Instr) → FitsAs (row_of i.op).layout i → decoded (parts_of i) ≡ Some i
unfolding decoded
decoded-parts i h =
    let r = row_of i.op in
    ap (option_map (λ (q : Row). read_as q.layout q.op (parts_of i))) (own_row i)
    ∙ ap (λ o. Some (read_as r.layout o (parts_as r.layout r i))) (row-op i.op)
    ∙ ap Some (read-parts r.layout r i h)

read-op : (l : Layout) (op : Op) (f : Fields) → (read_as l op f).op ≡ op
read-op R op f = refl
read-op _ op f = refl

-- the instruction fits its op's row, and has these parts
abbrev Has : Fields → Instr → Type 0
Has f i = FitsAs (row_of i.op).layout i × (parts_of i ≡ f)

at_op : (op : Op) (f : Fields) → InRange f → is_of f (row_of op) ≡ true → Has f (read_as (row_of op).layout op f)
at_op op f h x =
    let r = row_of op in
    let i = read_as r.layout op f in
    let p = and_parts (f.opcode == r.opcode) (fixes r.layout r f) x in
    subst (λ (o : Op). FitsAs (row_of o).layout i × (parts_as (row_of o).layout (row_of o) i ≡ f))
    (sym (read-op r.layout op f))
    (fits-read r.layout op r f h p.1, parts-read r.layout op r f h (eqb-true _ _ p.0) p.1)

parts-decoded : (f : Fields) (i : Instr) → InRange f → decoded f ≡ Some i → Has f i
unfolding decoded
parts-decoded f i h e = go (find (is_of f) table) refl e
  where
    go : (o : Option Row) → find (is_of f) table ≡ o → option_map (λ (r : Row). read_as r.layout r.op f) o ≡ Some i
        → Has f i
    go None s e' = cc
    go (Some r) s e' =
        let (op, same, is) = found row_of (is_of f) ops r s in
        let here : read_as r.layout r.op f ≡ i = cc in
        let there : read_as (row_of op).layout (row_of op).op f ≡ i =
        subst (λ (q : Row). read_as q.layout q.op f ≡ i) same here in
        let it : read_as (row_of op).layout op f ≡ i =
        subst (λ (o : Op). read_as (row_of op).layout o f ≡ i) (row-op op) there in
        subst (Has f) it (at_op op f h (subst (λ (q : Row). is_of f q ≡ true) same is))

-- ---- the parts of an instruction's word are in range

parts-in_range : (l : Layout) (r : Row) (i : Instr) → r.opcode < 128 → r.funct3 < 8 → r.funct6 < 64 → r.extra < 2
    → FitsAs l i → InRange (parts_as l r i)
parts-in_range R r i a b c d h = record {
  opcode = a;
  rd = h.0;
  funct3 = b;
  rs1 = h.1;
  rs2 = h.2;
  bit25 = d;
  funct6 = c;
}
parts-in_range I r i a b c d h = let n : low 12 i.imm < 2 ^ 12 = low-lt 12 i.imm in
    record { opcode = a; rd = h.0; funct3 = b; rs1 = h.1; rs2 = omega arith; bit25 = omega arith; funct6 = omega arith }
parts-in_range S r i a b c d h = let n : low 12 i.imm < 2 ^ 12 = low-lt 12 i.imm in
    record { opcode = a; rd = omega arith; funct3 = b; rs1 = h.1; rs2 = h.2; bit25 = omega arith; funct6 = omega arith }
parts-in_range B r i a b c d h = let n : low 13 i.imm < 2 ^ 13 = low-lt 13 i.imm in
    record { opcode = a; rd = omega arith; funct3 = b; rs1 = h.1; rs2 = h.2; bit25 = omega arith; funct6 = omega arith }
parts-in_range U r i a b c d h = let n : low 20 i.imm < 2 ^ 20 = low-lt 20 i.imm in
    record {
      opcode = a;
      rd = h.0;
      funct3 = omega arith;
      rs1 = omega arith;
      rs2 = omega arith;
      bit25 = omega arith;
      funct6 = omega arith;
    }
parts-in_range J r i a b c d h = let n : low 21 i.imm < 2 ^ 21 = low-lt 21 i.imm in
    record {
      opcode = a;
      rd = h.0;
      funct3 = omega arith;
      rs1 = omega arith;
      rs2 = omega arith;
      bit25 = omega arith;
      funct6 = omega arith;
    }
parts-in_range Shift6 r i a b c d h = let n : low 6 i.imm < 2 ^ 6 = low-lt 6 i.imm in
    record { opcode = a; rd = h.0; funct3 = b; rs1 = h.1; rs2 = omega arith; bit25 = omega arith; funct6 = c }
parts-in_range Shift5 r i a b c d h = let n : low 5 i.imm < 2 ^ 5 = low-lt 5 i.imm in
    record { opcode = a; rd = h.0; funct3 = b; rs1 = h.1; rs2 = omega arith; bit25 = omega arith; funct6 = c }
parts-in_range Order r i a b c d h = let n : low 8 i.imm < 2 ^ 8 = low-lt 8 i.imm in
    record {
      opcode = a;
      rd = omega arith;
      funct3 = b;
      rs1 = omega arith;
      rs2 = omega arith;
      bit25 = omega arith;
      funct6 = omega arith;
    }
parts-in_range Whole r i a b c d h = record {
  opcode = a;
  rd = omega arith;
  funct3 = b;
  rs1 = omega arith;
  rs2 = omega (arith, d);
  bit25 = omega arith;
  funct6 = c;
}

pub encoded-in_range : (i : Instr) → Fits i → InRange (parts_of i)
unfolding Fits
encoded-in_range i h =
    let r = row_of i.op in
    let p = and_parts (nat_lt r.opcode 128 && nat_lt r.funct3 8 && nat_lt r.funct6 64) (nat_lt r.extra 2)
    (row-right i.op) in
    let q = and_parts (nat_lt r.opcode 128 && nat_lt r.funct3 8) (nat_lt r.funct6 64) p.0 in
    let w = and_parts (nat_lt r.opcode 128) (nat_lt r.funct3 8) q.0 in
    parts-in_range r.layout r i (ltb-true _ _ w.0) (ltb-true _ _ w.1) (ltb-true _ _ q.1) (ltb-true _ _ p.1) h

-- ---- and on words

pub decoded-word : (i : Instr) → Fits i → decoded (split (word_of i)) ≡ Some i
unfolding Fits word_of
decoded-word i h = ap decoded (split-join (parts_of i) (encoded-in_range i h)) ∙ decoded-parts i h

pub word-lt : (i : Instr) → Fits i → word_of i < 2 ^ 32
unfolding word_of
word-lt i h = join-lt (parts_of i) (encoded-in_range i h)

pub word-decoded : (w : ℕ) (i : Instr) → w < 2 ^ 32 → decoded (split w) ≡ Some i → Fits i × (word_of i ≡ w)
unfolding Fits word_of
word-decoded w i b e = let p = parts-decoded (split w) i (split-in_range w b) e in (p.0, ap join p.1 ∙ join-split w b)

-- nothing is read exactly where no instruction has the word
pub none-decoded : (w : ℕ) → decoded (split w) ≡ None → (i : Instr) → Fits i → word_of i ≡ w → ⊥
none-decoded w e i h s = let at : decoded (split w) ≡ Some i =
    subst (λ (v : ℕ). decoded (split v) ≡ Some i) s (decoded-word i h) in cc
