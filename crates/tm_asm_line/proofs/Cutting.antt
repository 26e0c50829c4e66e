-- Operands cut out of a line, and the pieces of a line one by one.
use Rattle.std.proofs.Common.{◌≡◌, ◌≢◌, ◌≤◌, ◌<◌, ℕ, Bool, cond, IfSome, Some, lit<, ◌+◌, ◌-◌, not, true, false, eqb}
use Rattle.std.proofs.Common.{List, [], ◌∷◌, length, take, drop, get_or, Ok, Err, refl, arith, length-take-le}
use Rattle.std.specs.List.{prefix_len, find}
use Rattle.std.proofs.lemmas.List.Sums.{prefix_len-le-length}
use Rattle.std.proofs.lemmas.List.{drop_more, drop_all}
use Rattle.std.proofs.lemmas.Bool.Decides.{nat_tests}
use Rattle.tm_base.proofs.PrintLemmas.{drop_whole}
use Rattle.tm_table.specs.declared.instr.Instr.{Instr}
use Rattle.tm_asm_line.specs.declared.shape.Operand.{Operand}
use Rattle.tm_asm_line.specs.declared.shape.Piece.{Piece}
use Rattle.tm_asm_line.specs.declared.fault.AsmFault.TheVariants.{BadShape}
use Rattle.std.specs.Str.{bytes_eq}
use Rattle.tm_asm_line.specs.Shapes.{sets, set_text}
use Rattle.tm_asm_line.specs.Reading.{set_of, is_blank, is_delimiter, operand, name_at, wanted, taken, and_place}
use Rattle.tm_asm_line.specs.Reading.{operand_reading, pieces_reading, piece_reading, after_blanks, and_then}

-- the operand that the code cuts out
pub operand-is : (text : List ℕ) (at len : ℕ) → len
    ≡ prefix_len (λ b. not (is_delimiter b)) (take (length text - at) (drop at text))
    → take len (take (length text - at) (drop at text)) ≡ operand text at
unfolding operand
operand-is text at len size = let whole = drop_whole text at (length text) refl in rw (size, whole)

pub operand-size : (text : List ℕ) (at len : ℕ) → len
    ≡ prefix_len (λ b. not (is_delimiter b)) (take (length text - at) (drop at text)) → length (operand text at) ≡ len
unfolding operand
operand-size text at len size =
    let whole = drop_whole text at (length text) refl in
    rw (size, whole) (length-take-le _ _ (prefix_len-le-length (λ b. not (is_delimiter b)) (drop at text)))

pub taken-none : (o : Operand) (text : List ℕ) (at : ℕ) (i : Instr) (bs : List ℕ) → length bs ≡ 0 → taken o text at i bs
    ≡ Err (BadShape (wanted text at))
taken-none o text at i [] none = refl
taken-none o text at i (b ∷ bs) none = absurd (omega arith)

pub taken-some : (o : Operand) (text : List ℕ) (at : ℕ) (i : Instr) (bs : List ℕ) → length bs ≢ 0 → taken o text at i bs
    ≡ and_place (at + length bs) (operand_reading o at bs i)
taken-some o text at i [] some = absurd (some refl)
taken-some o text at i (b ∷ bs) some = refl

-- the piece at an index and those after it
pub pieces-more : (text : List ℕ) (ps : List Piece) (k at : ℕ) (d : Piece) (i : Instr) → k < length ps
    → pieces_reading text (drop k ps) at i ≡ and_then (piece_reading text (get_or ps k d) (after_blanks text at) i)
    (pieces_reading text (drop (k + 1) ps))
unfolding pieces_reading
pieces-more text ps k at d i within = rw (drop_more ps k d within)

pub pieces-end : (text : List ℕ) (ps : List Piece) (k at : ℕ) (i : Instr) → length ps ≤ k → after_blanks text at
    ≡ length text → pieces_reading text (drop k ps) at i ≡ Ok i
unfolding pieces_reading
pieces-end text ps k at i past end =
    let test : eqb (after_blanks text at) (length text) ≡ true = grind (arith, nat_tests) in
    rw (drop_all k ps past, test)

pub pieces-late : (text : List ℕ) (ps : List Piece) (k at : ℕ) (i : Instr) → length ps ≤ k
    → after_blanks text at ≢ length text
    → pieces_reading text (drop k ps) at i ≡ Err (BadShape (wanted text (after_blanks text at)))
unfolding pieces_reading
pieces-late text ps k at i past more =
    let test : eqb (after_blanks text at) (length text) ≡ false = grind (arith, nat_tests) in
    rw (drop_all k ps past, test)

-- the name that the code cuts out
pub name-is : (text : List ℕ) (at len : ℕ)
    → len ≡ prefix_len (λ b. not (is_blank b)) (take (length text - at) (drop at text))
    → take (at + len - at) (drop at text) ≡ name_at text at
unfolding name_at
name-is text at len size =
    let whole = drop_whole text at (length text) refl in
    let same : at + len - at ≡ len = omega arith in
    rw (same, size, whole)

pub name-size : (text : List ℕ) (at len : ℕ) → len
    ≡ prefix_len (λ b. not (is_blank b)) (take (length text - at) (drop at text)) → length (name_at text at) ≡ len
unfolding name_at
name-size text at len size =
    let whole = drop_whole text at (length text) refl in
    rw (size, whole) (length-take-le _ _ (prefix_len-le-length (λ b. not (is_blank b)) (drop at text)))

abbrev AllBelow : ℕ → List ℕ → Type 0
AllBelow n [] = Unit {0}
AllBelow n (x ∷ xs) = (x < n) × AllBelow n xs

found-below : (p : ℕ → Bool) (n : ℕ) (xs : List ℕ) → AllBelow n xs → IfSome (find p xs) (λ x. x < n)
found-below p n [] all = tt
found-below p n (x ∷ xs) all =
    elim (p x) as (λ b. IfSome (cond b (Some x) (find p xs)) (λ y. y < n))
    [ true ↦ all.0 | false ↦ found-below p n xs all.1 ]

-- the sets are below 16
pub set-small : (bs : List ℕ) → IfSome (set_of bs) (λ x. x < 16)
unfolding set_of
set-small bs =
    found-below (λ n. bytes_eq (set_text n) bs) 16 sets (
      lit< tt,
      (
        lit< tt,
        (
          lit< tt,
          (
            lit< tt,
            (
              lit< tt,
              (
                lit< tt,
                (
                  lit< tt,
                  (lit< tt, (lit< tt, (lit< tt, (lit< tt, (lit< tt, (lit< tt, (lit< tt, (lit< tt, (lit< tt, tt))))))))),
                ),
              ),
            ),
          ),
        ),
      ),
    )
