-- What a line spells fits.
use Rattle.std.proofs.Common.{lit≤, ◌≡◌, ◌<◌, ◌≤◌, ℕ, ◌+◌, ◌*◌, ◌%◌, ◌==◌, Bool, T, true, false, ◌&&◌, not, nat_lt, ℤ}
use Rattle.std.proofs.Common.{pos, negsuc, List, [], ◌∷◌, length, if◌then◌else◌, Option, Some, None, IfSome, Result}
use Rattle.std.proofs.Common.{Ok, Err, refl, ap, subst, inl, inr, arith}
use Rattle.std.specs.Prelude.{slice_index, int_le, unsigned_abs, ◌⊎◌}
use Rattle.std.specs.Char.{is_digit, digit_value}
use Rattle.std.proofs.lemmas.Bool.{cases_Bool, and_parts, ltb-true, eqb-true}
use Rattle.std.proofs.lemmas.Int.{ints}
use Rattle.tm_table.specs.declared.instr.Op.{Op}
use Rattle.tm_table.specs.declared.instr.Instr.{Instr}
use Rattle.tm_table.specs.declared.table.Layout.{Layout}
use Rattle.tm_table.specs.Table.{row_of}
use Rattle.tm_table.specs.Words.{low, Fits, FitsAs, From}
use Rattle.tm_asm_line.specs.declared.fault.AsmFault.{AsmFault}
use Rattle.tm_asm_line.specs.declared.shape.Slot.{Slot}
use Rattle.tm_asm_line.specs.declared.shape.Range.{Range}
use Rattle.tm_asm_line.specs.declared.shape.Side.{Side}
use Rattle.tm_asm_line.specs.declared.shape.Piece.{Piece}
use Rattle.tm_asm_line.specs.declared.shape.Piece.TheVariants.{Take, Mark}
use Rattle.tm_asm_line.specs.declared.shape.Operand.{Operand}
use Rattle.tm_asm_line.specs.declared.shape.Operand.TheVariants.{Register, Number, Set}
use Rattle.tm_asm_line.specs.declared.shape.Shape.{Shape}
use Rattle.tm_asm_line.specs.declared.shape.Shape.TheVariants.{Upper, Jump, Memory, Branch, Store, Immediate, Shift64}
use Rattle.tm_asm_line.specs.declared.shape.Shape.TheVariants.{Shift32, Registers, Fences, Bare}
use Rattle.tm_asm_line.specs.Shapes.{shape_of, pieces_of}
use Rattle.tm_asm_line.specs.Reading.{register_of, signed_of, set_of, set_before, with_register, with_set, is_in}
use Rattle.tm_asm_line.specs.Reading.{or_register, or_number, or_set, operand_reading, piece_reading, pieces_reading}
use Rattle.tm_asm_line.specs.Reading.{and_place, and_then, taken, operand, after_blanks, bare, named, line_of, op_of}
use Rattle.tm_asm_line.specs.Reading.{name_at}
use Rattle.tm_asm_line.proofs.Cutting.{set-small}
use Rattle.tm_asm_line.proofs.Printed.{layout_of, same_layout}

-- What holds of an instruction once the pieces that are left are read, whatever they say.
abbrev pub After : List Piece → (Instr → Type 0) → Instr → Type 0
After [] Q i = Q i
After (Mark m ∷ ps) Q i = After ps Q i
After (Take (Register s) ∷ ps) Q i = (r : ℕ) → r < 32 → After ps Q (with_register s r i)
After (Take (Number r) ∷ ps) Q i = (z : ℤ) → is_in r z ≡ true → After ps Q (record i { imm = z })
After (Take (Set s) ∷ ps) Q i = (n : ℕ) → n < 16 → After ps Q (with_set s n i)

-- ---- one operand

-- a number that is there, where a test holds, and only if it is small
small-if : (t : Bool) (n r : ℕ) (o : Option ℕ) → (t ≡ true → n < 32) → (o ≡ Some r → r < 32) → (if t then Some n else o)
    ≡ Some r → r < 32
small-if true n r o small rest e = let same : n ≡ r = cc in rw (← same) (small refl)
small-if false n r o small rest e = rest e

short_digit : (a : Bool) (n : ℕ) → a && nat_lt n 10 ≡ true → n < 32
short_digit a n t = let low : n < 10 = ltb-true n 10 (and_parts a (nat_lt n 10) t).1 in omega arith

long_digits : (a b c : Bool) (n : ℕ) → a && (b && (c && nat_lt n 32)) ≡ true → n < 32
long_digits a b c n t =
    ltb-true n 32
    (and_parts c (nat_lt n 32) (and_parts b (c && nat_lt n 32) (and_parts a (b && (c && nat_lt n 32)) t).1).1).1

register-small : (bs : List ℕ) (r : ℕ) → register_of bs ≡ Some r → r < 32
unfolding register_of
register-small bs r e =
    let x = slice_index bs 1 in
    let y = slice_index bs 2 in
    elim (cases_Bool (not (slice_index bs 0 == 120))) [
      | inl t ↦ let wrong = rw t at e in cc
      | inr f ↦
          let rest = rw f at e in
          small-if (length bs == 2 && is_digit x 10) (digit_value x) r _ (short_digit (length bs == 2) (digit_value x))
          (small-if (length bs == 3 && ((is_digit x 10 && is_digit y 10)
          && (not (x == 48) && nat_lt (10 * digit_value x + digit_value y) 32)))
          (10 * digit_value x + digit_value y) r None
          (long_digits (length bs == 3) (is_digit x 10 && is_digit y 10) (not (x == 48))
          (10 * digit_value x + digit_value y)) (λ w. cc))
          rest
    ]

register-after : (s : Slot) (ps : List Piece) (Q : Instr → Type 0) (at : ℕ) (bs : List ℕ) (i k : Instr) (o : Option ℕ)
    → register_of bs ≡ o → After (Take (Register s) ∷ ps) Q i
    → or_register s at i o ≡ Ok k → After ps Q k
register-after s ps Q at bs i k None is h e = cc
register-after s ps Q at bs i k (Some r) is h e = let same : with_register s r i ≡ k = cc in
    subst (After ps Q) same (h r (register-small bs r is))

number-after : (r : Range) (ps : List Piece) (Q : Instr → Type 0) (at : ℕ) (i k : Instr) (o : Option ℤ)
    → After (Take (Number r) ∷ ps) Q i → or_number r at i o ≡ Ok k → After ps Q k
number-after r ps Q at i k None h e = cc
number-after r ps Q at i k (Some z) h e = elim (cases_Bool (is_in r z)) [
  | inl t ↦ let read = rw t at e in let same : record i { imm = z } ≡ k = cc in subst (After ps Q) same (h z t)
  | inr f ↦ let wrong = rw f at e in cc
]

set-after : (s : Side) (ps : List Piece) (Q : Instr → Type 0) (at : ℕ) (i k : Instr) (o : Option ℕ)
    → IfSome o (λ n. n < 16) → After (Take (Set s) ∷ ps) Q i → or_set s at i o ≡ Ok k → After ps Q k
set-after s ps Q at i k None small h e = cc
set-after s ps Q at i k (Some n) small h e = let same : with_set s n i ≡ k = cc in subst (After ps Q) same (h n small)

operand-after : (o : Operand) (ps : List Piece) (Q : Instr → Type 0) (at : ℕ) (bs : List ℕ) (i k : Instr)
    → After (Take o ∷ ps) Q i → operand_reading o at bs i ≡ Ok k → After ps Q k
unfolding operand_reading
operand-after (Register s) ps Q at bs i k h e = register-after s ps Q at bs i k (register_of bs) refl h e
operand-after (Number r) ps Q at bs i k h e = number-after r ps Q at i k (signed_of bs) h e
operand-after (Set s) ps Q at bs i k h e = set-after s ps Q at i k (set_of bs) (set-small bs) h e

-- ---- pieces

placed-ok : (n : ℕ) (r : Result Instr AsmFault) (q : ℕ × Instr) → and_place n r ≡ Ok q → r ≡ Ok (q.1)
placed-ok n (Ok i) q e = let pair : (n, i) ≡ q = cc in
    ap (λ (x : ℕ × Instr). let ok : Result Instr AsmFault = Ok (x.1) in ok) pair
placed-ok n (Err f) q e = cc

taken-after : (o : Operand) (ps : List Piece) (Q : Instr → Type 0) (text : List ℕ) (at : ℕ) (i : Instr) (q : ℕ
    × Instr) (bs : List ℕ) → After (Take o ∷ ps) Q i → taken o text at i bs ≡ Ok q
    → After ps Q (q.1)
taken-after o ps Q text at i q [] h e = cc
taken-after o ps Q text at i q (b ∷ bs) h e = operand-after o ps Q at (b ∷ bs) i (q.1) h (placed-ok _ _ q e)

piece-after : (p : Piece) (ps : List Piece) (Q : Instr → Type 0) (text : List ℕ) (at : ℕ) (i : Instr) (q : ℕ × Instr)
    → After (p ∷ ps) Q i → piece_reading text p at i ≡ Ok q → After ps Q (q.1)
unfolding piece_reading
piece-after (Take o) ps Q text at i q h e = taken-after o ps Q text at i q (operand text at) h e
piece-after (Mark m) ps Q text at i q h e = elim (cases_Bool (nat_lt at (length text) && slice_index text at == m)) [
  | inl t ↦ let read = rw t at e in let pair : (at + 1, i) ≡ q = cc in
      subst (λ (x : ℕ × Instr). After ps Q (x.1)) pair h
  | inr f ↦ let wrong = rw f at e in cc
]

next-ok : (r : Result (ℕ × Instr) AsmFault) (next : ℕ → Instr → Result Instr AsmFault) (j : Instr)
    → and_then r next ≡ Ok j → (q : ℕ × Instr) × (r ≡ Ok q) × (next q.0 q.1 ≡ Ok j)
next-ok (Ok q) next j e = (q, refl, e)
next-ok (Err f) next j e = cc

-- what holds of all that pieces may say holds of what is read
read-after : (ps : List Piece) (Q : Instr → Type 0) (text : List ℕ) (at : ℕ) (i j : Instr) → After ps Q i
    → pieces_reading text ps at i ≡ Ok j → Q j
unfolding pieces_reading
read-after [] Q text at i j h e = elim (cases_Bool (after_blanks text at == length text)) [
  | inl t ↦ let read = rw t at e in let same : i ≡ j = cc in subst Q same h
  | inr f ↦ let wrong = rw f at e in cc
]
read-after (p ∷ ps) Q text at i j h e =
    let step = next-ok (piece_reading text p (after_blanks text at) i) (pieces_reading text ps) j e in
    read-after ps Q text (step.0.0) (step.0.1) j (piece-after p ps Q text (after_blanks text at) i (step.0) h (step.1))
    (step.2)

-- ---- what the operands of a shape say

T-of : (b : Bool) → b ≡ true → T b
T-of true e = tt
T-of false e = cc

in-range : (first last z : ℤ) (even : Bool) → is_in (record { first = first; last = last; even = even }) z ≡ true
    → From first last z
unfolding is_in
in-range first last z even h =
    let ends = (and_parts _ _ h).0 in (
      record { le = T-of (int_le first z) (and_parts _ _ ends).0 },
      record { le = T-of (int_le z last) (and_parts _ _ ends).1 },
    )

even-low : (k : ℕ) (z : ℤ) → (k ≡ 13) ⊎ (k ≡ 21) → unsigned_abs z % 2 ≡ 0 → low k z % 2 ≡ 0
even-low k (pos n) (inl a) e = rw a (omega arith)
even-low k (pos n) (inr a) e = rw a (omega arith)
even-low k (negsuc n) (inl a) e = rw a (omega arith)
even-low k (negsuc n) (inr a) e = rw a (omega arith)

even-of : (first last z : ℤ) → is_in (record { first = first; last = last; even = true }) z ≡ true
    → unsigned_abs z % 2 ≡ 0
unfolding is_in
even-of first last z h = eqb-true _ _ (and_parts (int_le first z && int_le z last) (unsigned_abs z % 2 == 0) h).1

wider : (first last more : ℕ) (z : ℤ) → last ≤ more → From (negsuc first) (pos last) z
    → From (negsuc first) (pos more) z
wider first last more z few h = (h.0, omega (arith, ints, h.1))

-- two sets of four bits
sets-in : (n m : ℕ) → n < 16 → m < 16 → From (pos 0) (pos 255) (pos (16 * set_before (pos (16 * n + 0 % 16)) + m))
sets-in n m a b = (omega (arith, ints), omega (arith, ints))

-- an instruction of an op, in the ranges of a layout
abbrev IsLaid : Op → Layout → Instr → Type 0
IsLaid op l i = (i.op ≡ op) × FitsAs l i

shape-after : (s : Shape) (op : Op) → After (pieces_of s) (IsLaid op (layout_of s)) (bare op)
unfolding pieces_of
shape-after Upper op = λ rd a z t. (refl, (a, refl, refl, in-range _ _ z _ t))
shape-after Jump op =
    λ rd a z t. (
      refl,
      (
        a,
        refl,
        refl,
        wider _ _ _ z (lit≤ tt) (in-range _ _ z _ t),
        even-low 21 z (inr refl) (even-of _ _ z t),
      ),
    )
shape-after Memory op = λ rd a z t rs1 b. (refl, (a, b, refl, in-range _ _ z _ t))
shape-after Branch op =
    λ rs1 a rs2 b z t. (
      refl,
      (
        refl,
        a,
        b,
        wider _ _ _ z (lit≤ tt) (in-range _ _ z _ t),
        even-low 13 z (inl refl) (even-of _ _ z t),
      ),
    )
shape-after Store op = λ rs2 a z t rs1 b. (refl, (refl, b, a, in-range _ _ z _ t))
shape-after Immediate op = λ rd a rs1 b z t. (refl, (a, b, refl, in-range _ _ z _ t))
shape-after Shift64 op = λ rd a rs1 b z t. (refl, (a, b, refl, in-range _ _ z _ t))
shape-after Shift32 op = λ rd a rs1 b z t. (refl, (a, b, refl, in-range _ _ z _ t))
shape-after Registers op = λ rd a rs1 b rs2 d. (refl, (a, b, d, refl))
shape-after Fences op = λ n a m b. (refl, (refl, refl, refl, sets-in n m a b))
shape-after Bare op = (refl, (refl, refl, refl, refl))

laid-fits : (op : Op) (i : Instr) → IsLaid op (layout_of (shape_of op)) i → Fits i
unfolding Fits
laid-fits op i h =
    let same : layout_of (shape_of op) ≡ (row_of i.op).layout = rw h.0 (same_layout op) in
    subst (λ (l : Layout). FitsAs l i) same (h.1)

named-fits : (text : List ℕ) (at : ℕ) (o : Option Op) (i : Instr) → named text at o ≡ Ok i → Fits i
named-fits text at None i e = cc
named-fits text at (Some op) i e =
    laid-fits op i (read-after (pieces_of (shape_of op)) (IsLaid op (layout_of (shape_of op))) text at (bare op) i
    (shape-after (shape_of op) op) e)

-- the instruction that a line spells fits
pub line-fits : (text : List ℕ) (i : Instr) → line_of text ≡ Ok i → Fits i
unfolding line_of
line-fits text i e = named-fits text (after_blanks text 0 + length (name_at text (after_blanks text 0)))
    (op_of (name_at text (after_blanks text 0))) i e
