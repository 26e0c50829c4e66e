-- The words of plain code.
use Rattle.std.proofs.Common.{◌≡◌, ℕ, ◌+◌, List, [], ◌∷◌, length, Option, refl, sym, ap, ◌∙◌, subst, arith}
use Rattle.tm_table.specs.declared.instr.Instr.{Instr}
use Rattle.tm_table.specs.Words.{word_of, words_of}
use Rattle.tm_asm.specs.Sheet.{Sheet, AllPlaced, words_in, plain, puts}
use Rattle.tm_asm.proofs.Append.{length-puts}
use Rattle.tm_pass_code.specs.Plain.{blank, IsPlain}

plain-placed : (ps : List (Option ℕ)) (is : List Instr) → AllPlaced ps (plain is)
plain-placed ps [] = tt
plain-placed ps (i ∷ is) = (tt, plain-placed ps is)

-- no label is used
pub all_placed : (s : Sheet) → IsPlain s → AllPlaced s.places s.items
unfolding puts
all_placed s h = subst (λ (x : Sheet). AllPlaced x.places x.items) (sym h.1) (plain-placed [] h.0)

-- plain instructions are laid as they stand, whatever the labels
plain-instrs : (ps : List (Option ℕ)) (at : ℕ) (is : List Instr) → words_in ps at (plain is) ≡ words_of is
plain-instrs ps at [] = refl
plain-instrs ps at (i ∷ is) = ap (λ (l : List ℕ). word_of i ∷ l) (plain-instrs ps (at + 1) is)

-- the words that plain code becomes
pub plain-words : (s : Sheet) (is : List Instr) → s ≡ puts blank is
    → words_in s.places 0 s.items ≡ words_of is
unfolding puts
plain-words s is e =
    ap (λ (x : Sheet). words_in x.places 0 x.items) e ∙ plain-instrs [] 0 is

-- how many words there are
pub plain-length : (s : Sheet) (is : List Instr) → s ≡ puts blank is → length s.items ≡ length is
plain-length s is e =
    let more = length-puts blank is in
    ap (λ (x : Sheet). length x.items) e ∙ omega (arith, more)
