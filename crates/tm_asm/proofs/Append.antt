-- Laws of appended words.
use Rattle.std.proofs.Common.{◌≡◌, ℕ, suc, ◌+◌, List, [], ◌∷◌, ◌++◌, length, refl, sym, ap, ◌∙◌, append_assoc}
use Rattle.std.proofs.Common.{append-nil, length-append}
use Rattle.tm_table.specs.declared.instr.Instr.{Instr}
use Rattle.tm_asm.specs.declared.code.Item.{Item}
use Rattle.tm_asm.specs.declared.code.Item.TheVariants.{Plain}
use Rattle.tm_asm.specs.Sheet.{Sheet, plain, puts}

plain-append : (a b : List Instr) → plain (a ++ b) ≡ plain a ++ plain b
plain-append [] b = refl
plain-append (i ∷ a) b = ap (λ (l : List Item). Plain i ∷ l) (plain-append a b)

pub puts-none : (s : Sheet) → puts s [] ≡ s
unfolding puts
puts-none s = ap (λ (l : List Item). record { items = l; places = s.places }) (append-nil s.items)

-- one block after another
pub puts-then : (s : Sheet) (a b : List Instr) → puts (puts s a) b ≡ puts s (a ++ b)
unfolding puts
puts-then s a b =
    ap (λ (l : List Item). record { items = l; places = s.places })
    (append_assoc s.items (plain a) (plain b) ∙ ap (λ (l : List Item). s.items ++ l) (sym (plain-append a b)))

plain-length : (is : List Instr) → length (plain is) ≡ length is
plain-length [] = refl
plain-length (i ∷ is) = ap suc (plain-length is)

pub length-puts : (s : Sheet) (is : List Instr) → length (puts s is).items ≡ length s.items + length is
unfolding puts
length-puts s is = length-append s.items (plain is) ∙ ap (λ (n : ℕ). length s.items + n) (plain-length is)
