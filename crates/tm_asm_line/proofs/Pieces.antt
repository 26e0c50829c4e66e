-- The pieces of a printed line, read back.
use Rattle.std.proofs.Common.{◌≡◌, ◌≤◌, ◌<◌, ℕ, suc, ◌+◌, ◌-◌, ◌^◌, Bool, true, false}
use Rattle.std.proofs.Common.{eqb, nat_lt, if◌then◌else◌, ◌==◌, List, [], ◌∷◌, ◌++◌, length, drop, get_or}
use Rattle.std.proofs.Common.{pos, negsuc, Ok, refl, sym, ap, ◌∙◌, inl, inr, arith, length-append}
use Rattle.std.proofs.Common.{length-drop}
use Rattle.std.specs.Prelude.{slice_index}
use Rattle.std.proofs.lemmas.Bool.Decides.{eqb_tells}
use Rattle.std.proofs.lemmas.Bool.{eq-eqb, lt-ltb}
use Rattle.std.proofs.lemmas.List.{get_or-drop}
use lib.Signed.{mag}
use Rattle.tm_table.specs.declared.instr.Instr.{Instr}
use Rattle.tm_asm_line.specs.declared.shape.Side.{Side}
use Rattle.tm_asm_line.specs.declared.shape.Side.TheVariants.{Before, After}
use Rattle.tm_asm_line.specs.declared.shape.Operand.{Operand}
use Rattle.tm_asm_line.specs.declared.shape.Operand.TheVariants.{Register, Number, Set}
use Rattle.tm_asm_line.specs.declared.shape.Piece.{Piece}
use Rattle.tm_asm_line.specs.declared.shape.Piece.TheVariants.{Take, Mark}
use Rattle.tm_asm_line.specs.Reading.{is_blank, is_delimiter, after_blanks, is_in, set_before, set_after}
use Rattle.tm_asm_line.specs.Reading.{with_register, with_set, operand_reading, piece_reading, pieces_reading, bare}
use Rattle.tm_asm_line.specs.Printing.{register_in, set_in, operand_text, mark_text, pieces_text}
use Rattle.tm_asm_line.proofs.Cutting.{taken-some}
use Rattle.tm_asm_line.proofs.Cut.{ends, no_blank, no_blank-none, blanks-none, blanks-one}
use Rattle.tm_asm_line.proofs.Cut.{drop_behind, operand-here}
use Rattle.tm_asm_line.proofs.Back.{IsOne, register_back, set_back, signed_back}

-- what an operand asks of an instruction
abbrev pub Holds : Operand → Instr → Type 0
Holds (Register s) i = register_in s i < 32
Holds (Number r) i = (is_in r i.imm ≡ true) × (mag i.imm < 2 ^ 20)
Holds (Set s) i = Unit {0}

-- an instruction with an operand of another
abbrev pub with_operand : Operand → Instr → Instr → Instr
with_operand (Register s) i acc = with_register s (register_in s i) acc
with_operand (Number r) i acc = record acc { imm = i.imm }
with_operand (Set s) i acc = with_set s (set_in s i) acc

pub set_low : (s : Side) (i : Instr) → set_in s i < 16
set_low Before i = elim i.imm as (λ z. set_before z < 16) [ pos n ↦ omega arith | negsuc n ↦ omega arith ]
set_low After i = elim i.imm as (λ z. set_after z < 16) [ pos n ↦ omega arith | negsuc n ↦ omega arith ]

pub operand_back : (o : Operand) (at : ℕ) (i acc : Instr) → Holds o i → operand_reading o at (operand_text o i) acc
    ≡ Ok (with_operand o i acc)
unfolding operand_reading operand_text
operand_back (Register s) at i acc h = let e = (register_back (register_in s i) h).0 in rw e
operand_back (Number r) at i acc h = let e = (signed_back i.imm h.1).0 in let t = h.0 in rw (e, t)
operand_back (Set s) at i acc h = let e = (set_back (set_in s i) (set_low s i)).0 in rw e

pub operand_one : (o : Operand) (i : Instr) → Holds o i → IsOne (operand_text o i)
unfolding operand_text
operand_one (Register s) i h = (register_back (register_in s i) h).1
operand_one (Number r) i h = (signed_back i.imm h.1).1
operand_one (Set s) i h = (set_back (set_in s i) (set_low s i)).1

-- ---- pieces

abbrev pub follows : List Piece → Bool
follows [] = true
follows (Mark m ∷ ps) = true
follows (Take o ∷ ps) = false

-- a mark or the end behind each operand, and what the operands ask
abbrev pub Fine : List Piece → Instr → Type 0
Fine [] i = Unit {0}
Fine (Mark m ∷ ps) i = (is_delimiter m ≡ true) × ((is_blank m ≡ false) × Fine ps i)
Fine (Take o ∷ ps) i = (follows ps ≡ true) × (Holds o i × Fine ps i)

-- an instruction with all operands of another
abbrev pub filled : List Piece → Instr → Instr → Instr
filled [] i acc = acc
filled (Mark m ∷ ps) i acc = filled ps i acc
filled (Take o ∷ ps) i acc = filled ps i (with_operand o i acc)

pub text_ends : (ps : List Piece) (i : Instr) → Fine ps i → follows ps ≡ true → ends is_delimiter (pieces_text ps i) ≡
    true
unfolding pieces_text mark_text
text_ends [] i h f = refl
text_ends (Mark m ∷ ps) i h f = h.0
text_ends (Take o ∷ ps) i h f = absurd (cc)

pub text_no_blank : (ps : List Piece) (i : Instr) → Fine ps i → no_blank (pieces_text ps i) ≡ true
unfolding pieces_text mark_text
text_no_blank [] i h = refl
text_no_blank (Mark m ∷ ps) i h = let e = h.1.0 in rw e
text_no_blank (Take o ∷ ps) i h = let one = operand_one o i h.1.0 in
    no_blank-none (operand_text o i) (pieces_text ps i) one.some one.free

-- an operand where it stands
pub take_here : (text rest : List ℕ) (o : Operand) (a : ℕ) (i acc : Instr) → Holds o i → ends is_delimiter rest ≡ true
    → drop a text ≡ operand_text o i ++ rest
    → piece_reading text (Take o) a acc ≡ Ok (a + length (operand_text o i), with_operand o i acc)
unfolding piece_reading
take_here text rest o a i acc h behind here =
    let one = operand_one o i h in
    let found = operand-here text (operand_text o i) rest a here one.free behind in
    let back = operand_back o a i acc h in
    rw (found, taken-some o text a acc (operand_text o i) one.some, back)

-- a mark where it stands
pub mark_here : (text rest : List ℕ) (m a : ℕ) (acc : Instr) → drop a text ≡ m ∷ rest → piece_reading text (Mark m) a
    acc
    ≡ Ok (a + 1, acc)
unfolding piece_reading
mark_here text rest m a acc here =
    let size : length text - a ≡ suc (length rest) = sym (length-drop a text) ∙ ap length here in
    let within : nat_lt a (length text) ≡ true = lt-ltb a (length text) (omega arith) in
    let there : slice_index text a ≡ m = let zero_more : a + 0 ≡ a = omega arith in
    rw zero_more at (sym (get_or-drop a text 0 0) ∙ ap (λ (l : List ℕ). get_or l 0 0) here) in
    let same : eqb m m ≡ true = eq-eqb m m refl in
    rw (within, there, same)

pub drop_one : (text rest : List ℕ) (m a : ℕ) → drop a text ≡ m ∷ rest → drop (a + 1) text ≡ rest
drop_one text rest m a here = drop_behind text (m ∷ []) rest a here

pub size_here : (text xs ys : List ℕ) (a : ℕ) → a ≤ length text → drop a text ≡ xs ++ ys → a + length xs ≤ length text
size_here text xs ys a within here =
    let size : length text - a ≡ length xs + length ys =
    sym (length-drop a text) ∙ (ap length here ∙ length-append xs ys) in
    omega arith

-- behind a mark, and a blank where it is a comma
pub mark_behind : (text rest : List ℕ) (m a : ℕ) → a ≤ length text → no_blank rest ≡ true
    → drop a text ≡ mark_text m ++ rest
    → (after_blanks text (a + 1) ≤ length text) × (drop (after_blanks text (a + 1)) text ≡ rest)
unfolding mark_text
mark_behind text rest m a within bare here =
    elim (eqb_tells m 44) [
      | inl t ↦
          let e = t.0 in
          let more : drop a text ≡ m ∷ 32 ∷ rest = rw e at here in
          let one : drop (a + 1) text ≡ 32 ∷ rest = drop_one text (32 ∷ rest) m a more in
          let two : drop (a + 1 + 1) text ≡ rest = drop_one text rest 32 (a + 1) one in
          rw (blanks-one text rest (a + 1) one bare) (
            let s = size_here text (m ∷ 32 ∷ []) rest a within more in
                omega arith,
            two,
          )
      | inr t ↦
          let e = t.0 in
          let more : drop a text ≡ m ∷ rest = rw e at here in
          let one : drop (a + 1) text ≡ rest = drop_one text rest m a more in
          rw (blanks-none text rest (a + 1) one bare) (
            let s = size_here text (m ∷ []) rest a within more in
                omega arith,
            one,
          )
    ]

pub pieces_back : (text : List ℕ) (ps : List Piece) (i acc : Instr) (at : ℕ) → Fine ps i
    → after_blanks text at ≤ length text → drop (after_blanks text at) text ≡ pieces_text ps i
    → pieces_reading text ps at acc ≡ Ok (filled ps i acc)
unfolding pieces_reading pieces_text
pieces_back text [] i acc at h within here =
    let size : length text - after_blanks text at ≡ 0 =
    sym (length-drop (after_blanks text at) text) ∙ ap length here in
    let test : eqb (after_blanks text at) (length text) ≡ true = eq-eqb _ _ (omega arith) in
    rw test
pieces_back text (Take o ∷ ps) i acc at h within here =
    let a = after_blanks text at in
    let rest = pieces_text ps i in
    let read = take_here text rest o a i acc h.1.0 (text_ends ps i h.1.1 h.0) here in
    let next : drop (a + length (operand_text o i)) text ≡ rest = drop_behind text (operand_text o i) rest a here in
    let stays = blanks-none text rest (a + length (operand_text o i)) next (text_no_blank ps i h.1.1) in
    let room = size_here text (operand_text o i) rest a within here in
    rw read (pieces_back text ps i (with_operand o i acc) (a + length (operand_text o i)) h.1.1 (rw stays room)
    (rw stays next))
pieces_back text (Mark m ∷ ps) i acc at h within here =
    let a = after_blanks text at in
    let behind = mark_behind text (pieces_text ps i) m a within (text_no_blank ps i h.1.1) here in
    let read = mark_here text ((if m == 44 then 32 ∷ [] else []) ++ pieces_text ps i) m a acc (unfold mark_text in
    here) in
    rw read (pieces_back text ps i acc (a + 1) h.1.1 behind.0 behind.1)
