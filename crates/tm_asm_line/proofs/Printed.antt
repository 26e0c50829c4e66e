-- What is printed is read back, a whole line.
use Rattle.std.proofs.Common.{◌≡◌, ◌≢◌, ◌≤◌, ◌<◌, ℕ, suc, ◌+◌, ◌*◌, ◌%◌, ◌^◌, Bool, T, lit<, true, false, ◌&&◌}
use Rattle.std.proofs.Common.{eqb, nat_le, nat_lt, List, [], ◌∷◌, ◌++◌, length, drop, get_or, ℤ}
use Rattle.std.proofs.Common.{pos, negsuc, Some, Ok, refl, sym, ap, subst, inl, inr, arith, length-append}
use Rattle.std.specs.Prelude.{int_le}
use Rattle.std.proofs.lemmas.Fmt.{length-decimal-le, length_signed_le}
use Rattle.std.proofs.lemmas.Bool.Decides.{eqb_tells}
use Rattle.std.proofs.lemmas.Bool.{eq-eqb, le-leb, ltb-true, leb-true}
use Rattle.std.proofs.lemmas.List.{drop_more, drop_all}
use Rattle.std.proofs.lemmas.Int.{ints}
use lib.Signed.{mag}
use Rattle.tm_table.specs.declared.instr.Op.{Op}
use Rattle.tm_table.specs.declared.instr.Op.TheVariants.{Lui}
use Rattle.tm_table.specs.declared.instr.Instr.{Instr}
use Rattle.tm_table.specs.declared.table.Layout.{Layout}
use Rattle.tm_table.specs.declared.table.Layout.TheVariants.{R, I, S, B, U, J, Shift6, Shift5, Order, Whole}
use Rattle.tm_table.specs.Table.{row_of}
use Rattle.tm_table.specs.Words.{low, Fits, FitsAs, From}
use Rattle.tm_asm_line.specs.declared.shape.Operand.{Operand}
use Rattle.tm_asm_line.specs.declared.shape.Operand.TheVariants.{Register, Number, Set}
use Rattle.tm_asm_line.specs.declared.shape.Piece.{Piece}
use Rattle.tm_asm_line.specs.declared.shape.Piece.TheVariants.{Take, Mark}
use Rattle.tm_asm_line.specs.declared.shape.Shape.{Shape}
use Rattle.tm_asm_line.specs.declared.shape.Shape.TheVariants.{Upper, Jump, Memory, Branch, Store, Immediate, Shift64}
use Rattle.tm_asm_line.specs.declared.shape.Shape.TheVariants.{Shift32, Registers, Fences, Bare}
use Rattle.tm_asm_line.specs.Shapes.{name_of, shape_of, pieces_of}
use Rattle.tm_asm_line.specs.Reading.{is_blank, is_delimiter, after_blanks, is_in, set_before, set_after}
use Rattle.tm_asm_line.specs.Reading.{bare}
use Rattle.tm_asm_line.specs.Reading.{op_of, name_at, line_of}
use Rattle.tm_asm_line.specs.Printing.{register_in, set_in, operand_text, mark_text, piece_text, pieces_text, gap}
use Rattle.tm_asm_line.specs.Printing.{printed}
use Rattle.std.proofs.lemmas.Bool.{and_parts}
use Rattle.tm_asm_line.proofs.Cut.{none, ends, no_blank, blanks-none, blanks-one}
use Rattle.tm_asm_line.proofs.Cut.{drop_behind, name-here}
use Rattle.tm_asm_line.proofs.Back.{set_short}
use Rattle.tm_asm_line.proofs.Pieces.{Holds, set_low, Fine, filled}
use Rattle.tm_asm_line.proofs.Pieces.{text_no_blank, drop_one, size_here}
use Rattle.tm_asm_line.proofs.Pieces.{pieces_back}

-- ---- operands of a shape

true_of : (b : Bool) → T b → b ≡ true
true_of true t = refl
true_of false t = absurd t

in_all : (first last z : ℤ) → From first last z → is_in (record { first = first; last = last; even = false }) z ≡ true
unfolding is_in
in_all first last z h = let a = true_of (int_le first z) h.0.le in let b = true_of (int_le z last) h.1.le in rw (a, b)

in_branch : (z : ℤ) → From (negsuc 4095) (pos 4095) z → low 13 z % 2 ≡ 0
    → is_in (record { first = negsuc 4095; last = pos 4094; even = true }) z ≡ true
unfolding is_in
in_branch (pos n) h even =
    let top : n ≤ 4095 = omega (arith, ints, h.1) in
    let a : nat_le n 4094 ≡ true = le-leb n 4094 (omega arith) in
    let b : eqb (n % 2) 0 ≡ true = eq-eqb _ _ (omega arith) in
    rw (a, b)
in_branch (negsuc n) h even =
    let top : n ≤ 4095 = omega (arith, ints, h.0) in
    let a : nat_le n 4095 ≡ true = le-leb n 4095 top in
    let b : eqb (suc n % 2) 0 ≡ true = eq-eqb _ _ (omega arith) in
    rw (a, b)

in_jump : (z : ℤ) → From (negsuc 1048575) (pos 1048575) z → low 21 z % 2 ≡ 0
    → is_in (record { first = negsuc 1048575; last = pos 1048574; even = true }) z ≡ true
unfolding is_in
in_jump (pos n) h even =
    let top : n ≤ 1048575 = omega (arith, ints, h.1) in
    let a : nat_le n 1048574 ≡ true = le-leb n 1048574 (omega arith) in
    let b : eqb (n % 2) 0 ≡ true = eq-eqb _ _ (omega arith) in
    rw (a, b)
in_jump (negsuc n) h even =
    let top : n ≤ 1048575 = omega (arith, ints, h.0) in
    let a : nat_le n 1048575 ≡ true = le-leb n 1048575 top in
    let b : eqb (suc n % 2) 0 ≡ true = eq-eqb _ _ (omega arith) in
    rw (a, b)

small_mag : (first last : ℕ) (z : ℤ) → first < 2 ^ 20 → last < 2 ^ 20 → From (negsuc first) (pos last) z
    → mag z < 2 ^ 20
small_mag first last (pos n) a b h = let top : n ≤ last = omega (arith, ints, h.1) in omega arith
small_mag first last (negsuc n) a b h = let top : n ≤ first = omega (arith, ints, h.0) in omega arith

positive_mag : (last : ℕ) (z : ℤ) → last < 2 ^ 20 → From (pos 0) (pos last) z → mag z < 2 ^ 20
positive_mag last (pos n) b h = let top : n ≤ last = omega (arith, ints, h.1) in omega arith
positive_mag last (negsuc n) b h = absurd (omega (arith, ints, h.0))

-- the layout whose ranges a shape has
abbrev pub layout_of : Shape → Layout
layout_of Upper = U
layout_of Jump = J
layout_of Memory = I
layout_of Branch = B
layout_of Store = S
layout_of Immediate = I
layout_of Shift64 = Shift6
layout_of Shift32 = Shift5
layout_of Registers = R
layout_of Fences = Order
layout_of Bare = Whole

pub same_layout : (op : Op) → layout_of (shape_of op) ≡ (row_of op).layout
unfolding shape_of
same_layout Lui = refl
same_layout _ = refl

rebuilt : (i : Instr) (rd rs1 rs2 : ℕ) (imm : ℤ) → rd ≡ i.rd → rs1 ≡ i.rs1 → rs2 ≡ i.rs2 → imm ≡ i.imm
    → record { op = i.op; rd = rd; rs1 = rs1; rs2 = rs2; imm = imm } ≡ i
rebuilt i rd rs1 rs2 imm a b c d = rw (a, b, c, d)

sets_both : (z : ℤ) → From (pos 0) (pos 255) z → pos (16 * set_before (pos (16 * set_before z + 0 % 16)) + set_after z)
    ≡ z
sets_both (pos n) h = let top : n ≤ 255 = omega (arith, ints, h.1) in ap pos (omega arith)
sets_both (negsuc n) h = absurd (omega (arith, ints, h.0))

abbrev Fills : Shape → Instr → Type 0
Fills s i = Fine (pieces_of s) i × (filled (pieces_of s) i (bare i.op) ≡ i)

fills : (s : Shape) (i : Instr) → FitsAs (layout_of s) i → Fills s i
unfolding pieces_of is_delimiter is_blank
fills Upper i h = (
  (refl, (h.0, (refl, (refl, (refl, ((in_all _ _ i.imm h.3, positive_mag _ i.imm (lit< tt) h.3), tt)))))),
  rebuilt i _ _ _ _ refl (sym h.1) (sym h.2) refl,
)
fills Jump i h = (
  (refl, (h.0, (refl, (refl, (refl, ((in_jump i.imm h.3 h.4, small_mag _ _ i.imm (lit< tt) (lit< tt) h.3), tt)))))),
  rebuilt i _ _ _ _ refl (sym h.1) (sym h.2) refl,
)
fills Memory i h = (
  (
    refl,
    (
      h.0,
      (
        refl,
        (
          refl,
          (
            refl,
            (
              (in_all _ _ i.imm h.3, small_mag _ _ i.imm (lit< tt) (lit< tt) h.3),
              (refl, (refl, (refl, (h.1, (refl, (refl, tt)))))),
            ),
          ),
        ),
      ),
    ),
  ),
  rebuilt i _ _ _ _ refl refl (sym h.2) refl,
)
fills Branch i h = (
  (
    refl,
    (
      h.1,
      (
        refl,
        (
          refl,
          (
            refl,
            (
              h.2,
              (
                refl,
                (refl, (refl, ((in_branch i.imm h.3 h.4, small_mag _ _ i.imm (lit< tt) (lit< tt) h.3), tt))),
              ),
            ),
          ),
        ),
      ),
    ),
  ),
  rebuilt i _ _ _ _ (sym h.0) refl refl refl,
)
fills Store i h = (
  (
    refl,
    (
      h.2,
      (
        refl,
        (
          refl,
          (
            refl,
            (
              (in_all _ _ i.imm h.3, small_mag _ _ i.imm (lit< tt) (lit< tt) h.3),
              (refl, (refl, (refl, (h.1, (refl, (refl, tt)))))),
            ),
          ),
        ),
      ),
    ),
  ),
  rebuilt i _ _ _ _ (sym h.0) refl refl refl,
)
fills Immediate i h = (
  (
    refl,
    (
      h.0,
      (
        refl,
        (
          refl,
          (
            refl,
            (
              h.1,
              (
                refl,
                (refl, (refl, ((in_all _ _ i.imm h.3, small_mag _ _ i.imm (lit< tt) (lit< tt) h.3), tt))),
              ),
            ),
          ),
        ),
      ),
    ),
  ),
  rebuilt i _ _ _ _ refl refl (sym h.2) refl,
)
fills Shift64 i h = (
  (
    refl,
    (
      h.0,
      (
        refl,
        (
          refl,
          (refl, (h.1, (refl, (refl, (refl, ((in_all _ _ i.imm h.3, positive_mag _ i.imm (lit< tt) h.3), tt)))))),
        ),
      ),
    ),
  ),
  rebuilt i _ _ _ _ refl refl (sym h.2) refl,
)
fills Shift32 i h = (
  (
    refl,
    (
      h.0,
      (
        refl,
        (
          refl,
          (refl, (h.1, (refl, (refl, (refl, ((in_all _ _ i.imm h.3, positive_mag _ i.imm (lit< tt) h.3), tt)))))),
        ),
      ),
    ),
  ),
  rebuilt i _ _ _ _ refl refl (sym h.2) refl,
)
fills Registers i h = (
  (refl, (h.0, (refl, (refl, (refl, (h.1, (refl, (refl, (refl, (h.2, tt)))))))))),
  rebuilt i _ _ _ _ refl refl refl (sym h.3),
)
fills Fences i h = (
  (refl, (tt, (refl, (refl, (refl, (tt, tt)))))),
  rebuilt i _ _ _ _ (sym h.0) (sym h.1) (sym h.2) (sets_both i.imm h.3),
)
fills Bare i h = (tt, rebuilt i _ _ _ _ (sym h.0) (sym h.1) (sym h.2) (sym h.3))

pub fits_fills : (i : Instr) → Fits i → Fills (shape_of i.op) i
unfolding Fits
fits_fills i h = fills (shape_of i.op) i (let P : Layout → Type 0 = λ l. FitsAs l i in
    subst P (sym (same_layout i.op)) h)

-- ---- a line

name_none : (op : Op) → none is_blank (name_of op) ≡ true
unfolding name_of is_blank
name_none Lui = refl
name_none _ = refl

name_some : (op : Op) → no_blank (name_of op) ≡ true
unfolding name_of is_blank
name_some Lui = refl
name_some _ = refl

name_length : (op : Op) → nat_le (length (name_of op)) 6 && nat_lt 0 (length (name_of op)) ≡ true
unfolding name_of
name_length Lui = refl
name_length _ = refl

op_back : (op : Op) → op_of (name_of op) ≡ Some op
unfolding op_of name_of
op_back Lui = refl
op_back _ = refl

no_blank-append : (bs rest : List ℕ) → length bs ≢ 0 → no_blank bs ≡ true → no_blank (bs ++ rest) ≡ true
no_blank-append [] rest some h = absurd (some refl)
no_blank-append (b ∷ bs) rest some h = h

-- behind a name
behind_name : (ps : List Piece) (text name : List ℕ) (i : Instr) → Fine ps i
    → text ≡ name ++ (gap ps ++ pieces_text ps i)
    → (after_blanks text (length name) ≤ length text) × (drop (after_blanks text (length name)) text ≡ pieces_text ps i)
unfolding pieces_text
behind_name [] text name i h is =
    let here : drop (length name) text ≡ [] = let z : 0 + length name ≡ length name = omega arith in
    rw z at (drop_behind text name [] 0 is) in
    rw (blanks-none text [] (length name) here refl) (
      let s = size_here text name [] 0 (omega arith) is in
          omega arith,
      here,
    )
behind_name (p ∷ ps) text name i h is =
    let here : drop (length name) text ≡ 32 ∷ pieces_text (p ∷ ps) i = let z : 0 + length name ≡ length name =
    omega arith in rw z at (drop_behind text name (32 ∷ pieces_text (p ∷ ps) i) 0 is) in
    let s = size_here text name (32 ∷ pieces_text (p ∷ ps) i) 0 (omega arith) is in
    let room : length name + 1 ≤ length text = size_here text (32 ∷ []) (pieces_text (p ∷ ps) i) (length name)
    (omega arith) here in
    rw (blanks-one text (pieces_text (p ∷ ps) i) (length name) here (text_no_blank (p ∷ ps) i h)) (
      room,
      drop_one text (pieces_text (p ∷ ps) i) 32 (length name) here,
    )

gap_ends : (ps : List Piece) (i : Instr) → ends is_blank (gap ps ++ pieces_text ps i) ≡ true
unfolding pieces_text is_blank
gap_ends [] i = refl
gap_ends (p ∷ ps) i = refl

pub line_back : (i : Instr) → Fits i → line_of (printed i) ≡ Ok i
unfolding line_of printed
line_back i h =
    let ps = pieces_of (shape_of i.op) in
    let name = name_of i.op in
    let text = name ++ (gap ps ++ pieces_text ps i) in
    let fit = fits_fills i h in
    let some : length name ≢ 0 = let l = and_parts (nat_le (length name) 6) (nat_lt 0 (length name)) (name_length i.op)
    in let m = ltb-true 0 (length name) l.1 in omega arith in
    let start : after_blanks text 0 ≡ 0 =
    blanks-none text text 0 refl (no_blank-append name (gap ps ++ pieces_text ps i) some (name_some i.op)) in
    let found : name_at text 0 ≡ name = name-here text name (gap ps ++ pieces_text ps i) 0 refl (name_none i.op)
    (gap_ends ps i) in
    let z : 0 + length name ≡ length name = omega arith in
    let b = behind_name ps text name i fit.0 refl in
    rw (start, found, op_back i.op, z, pieces_back text ps i (bare i.op) (length name) fit.0 b.0 b.1) (ap Ok fit.1)

-- ---- room for a line

operand_short : (o : Operand) (i : Instr) → Holds o i → length (operand_text o i) ≤ 8
unfolding operand_text
operand_short (Register s) i h =
    omega (arith, length-decimal-le 2 (register_in s i) (omega arith) (omega arith) (omega arith))
operand_short (Number r) i h = length_signed_le 7 i.imm (omega (arith, h.1)) (omega (arith, h.1))
operand_short (Set s) i h = omega (arith, set_short (set_in s i) (set_low s i))

pieces_short : (ps : List Piece) (i : Instr) → Fine ps i → length (pieces_text ps i) ≤ 8 * length ps
unfolding pieces_text mark_text
pieces_short [] i h = omega arith
pieces_short (Take o ∷ ps) i h = omega (
  arith,
  length-append (operand_text o i) (pieces_text ps i),
  operand_short o i h.1.0,
  pieces_short ps i h.1.1,
)
pieces_short (Mark m ∷ ps) i h =
    let more = pieces_short ps i h.1.1 in
    elim (eqb_tells m 44) [
      | inl t ↦ let e = t.0 in rw e (omega arith)
      | inr t ↦ let e = t.0 in rw e (omega arith)
    ]

few_pieces : (s : Shape) → nat_le (length (pieces_of s)) 6 ≡ true
unfolding pieces_of
few_pieces Upper = refl
few_pieces _ = refl

gap_short : (ps : List Piece) → length (gap ps) ≤ 1
gap_short [] = omega arith
gap_short (p ∷ ps) = omega arith

pub printed_short : (i : Instr) → Fits i → length (printed i) ≤ 64
unfolding printed
printed_short i h =
    let ps = pieces_of (shape_of i.op) in
    let fit = fits_fills i h in
    let l = and_parts (nat_le (length (name_of i.op)) 6) (nat_lt 0 (length (name_of i.op))) (name_length i.op) in
    let name = leb-true (length (name_of i.op)) 6 l.0 in
    let few = leb-true (length ps) 6 (few_pieces (shape_of i.op)) in
    let text = pieces_short ps i fit.0 in
    let some = gap_short ps in
    rw (length-append (name_of i.op) (gap ps ++ pieces_text ps i), length-append (gap ps) (pieces_text ps i))
    (omega arith)

-- ---- the loop over the pieces

pub pieces_text-more : (ps : List Piece) (k : ℕ) (d : Piece) (i : Instr) → k < length ps → pieces_text (drop k ps) i
    ≡ piece_text (get_or ps k d) i ++ pieces_text (drop (k + 1) ps) i
unfolding pieces_text
pieces_text-more ps k d i within = rw (drop_more ps k d within)

pub pieces_text-end : (ps : List Piece) (k : ℕ) (i : Instr) → length ps ≤ k → pieces_text (drop k ps) i ≡ []
unfolding pieces_text
pieces_text-end ps k i past = rw (drop_all k ps past)

pub gap-none : (ps : List Piece) → length ps ≡ 0 → gap ps ≡ []
gap-none [] h = refl
gap-none (p ∷ ps) h = absurd (omega arith)

pub gap-some : (ps : List Piece) → length ps ≢ 0 → gap ps ≡ 32 ∷ []
gap-some [] h = absurd (h refl)
gap-some (p ∷ ps) h = refl
