-- Rows of blocks that are appended to code.
use Rattle.std.proofs.Common.{◌≡◌, ℕ, suc, ◌+◌, ◌-◌, ◌<◌, ◌≤◌, List, [], ◌∷◌, ◌++◌, length, take, drop, get_or, map}
use Rattle.std.proofs.Common.{flat_map, sym, ap, ◌∙◌, arith, append-nil}
use Rattle.std.proofs.lemmas.List.{take_all}
use Rattle.std.proofs.lemmas.Grind.{flat_map-append}
use Rattle.std.proofs.lemmas.List.Concat.{flat_map_single}
use Rattle.tm_table.specs.declared.instr.Instr.{Instr}
use Rattle.tm_base.specs.Lists.{count_from}
use Rattle.tm_asm.specs.Sheet.{Sheet, puts}
use Rattle.tm_asm.proofs.Append.{puts-none, puts-then}
use Rattle.tm_base.proofs.ListLemmas.{count_from-suc}

-- no instruction, and one before all others
pub puts_none : (s : Sheet) (l : List Instr) → length l < 1 → s ≡ puts s l
puts_none s [] h = sym (puts-none s)
puts_none s (i ∷ l) h = absurd (omega arith)

pub puts_first : (s m t : Sheet) (l : List Instr) (d : Instr) → 1 ≤ length l → m ≡ puts s (get_or l 0 d ∷ [])
    → t ≡ puts m (take (length l - 1) (drop 1 l)) → t ≡ puts s l
puts_first s m t [] d h f g = absurd (omega arith)
puts_first s m t (i ∷ l) d h f g =
    let e : length (i ∷ l) - 1 ≡ length l = omega arith in
    g ∙ ap (λ (n : ℕ). puts m (take n l)) e ∙ ap (puts m) (take_all (length l) l (omega arith)) ∙ ap
    (λ (x : Sheet). puts x l) f ∙ puts-then s (i ∷ []) l

-- code with n blocks behind its words, those of a, a + 1 and so on
unfoldable pub row_of : Sheet → (ℕ → List Instr) → ℕ → ℕ → Sheet
row_of s block a n = puts s (flat_map block (count_from a n))

-- nothing is appended yet
pub none_yet : (block : ℕ → List Instr) (a n : ℕ) (s : Sheet) → n ≡ 0 → s ≡ row_of s block a n
unfolding row_of
none_yet block a n s e = sym (puts-none s) ∙ ap (λ (k : ℕ). puts s (flat_map block (count_from a k))) (sym e)

-- one block more is appended
pub one_more : (block : ℕ → List Instr) (a i n m : ℕ) (start old new : Sheet) → i ≡ a + n → m ≡ suc n
    → old ≡ row_of start block a n → new ≡ puts old (block i) → new ≡ row_of start block a m
unfolding row_of
one_more block a i n m start old new at next before call =
    let one : flat_map block (i ∷ []) ≡ block i = append-nil (block i) in
    let blocks : flat_map block (count_from a m) ≡ flat_map block (count_from a n) ++ block i =
    ap (λ (k : ℕ). flat_map block (count_from a k)) next
    ∙ ap (flat_map block) (count_from-suc a n ∙ ap (λ (k : ℕ). count_from a n ++ k ∷ []) (sym at))
    ∙ flat_map-append block (count_from a n) (i ∷ [])
    ∙ ap (λ (l : List Instr). flat_map block (count_from a n) ++ l) one in
    call
    ∙ ap (λ (s : Sheet). puts s (block i)) before
    ∙ puts-then start (flat_map block (count_from a n)) (block i)
    ∙ ap (puts start) (sym blocks)

-- all are appended
pub all_done : (block : ℕ → List Instr) (a i n : ℕ) (start new : Sheet) → i ≡ n → new ≡ row_of start block a i
    → new ≡ puts start (flat_map block (count_from a n))
unfolding row_of
all_done block a i n start new e done = done ∙ ap (λ (k : ℕ). puts start (flat_map block (count_from a k))) e

-- the same of single instructions
pub all_single : (one : ℕ → Instr) (a i n : ℕ) (start new : Sheet) → i ≡ n → new ≡ row_of start (λ r. one r ∷ []) a i
    → new ≡ puts start (map one (count_from a n))
all_single one a i n start new e done = all_done (λ r. one r ∷ []) a i n start new e done ∙ ap (puts start)
    (flat_map_single one (count_from a n))

-- one block after another
pub and_then : (a b : List Instr) (r s t : Sheet) → s ≡ puts r a → t ≡ puts s b → t ≡ puts r (a ++ b)
and_then a b r s t f g = g ∙ ap (λ (x : Sheet). puts x b) f ∙ puts-then r a b
