-- Worked rows of pieces and of the tokens that stand for them, computed.
use Rattle.std.proofs.Common.{◌≡◌, false, [], ◌∷◌, codes, refl, arith}
use Rattle.tm_base.specs.Numbers.{number_of, place_value, value_of, reading_at, digits_reading}
use Rattle.tm_base.specs.declared.Pos.{Pos}
use Rattle.tm_lex.specs.declared.token.TokenKind.TheVariants.{Word}
use Rattle.tm_lex.specs.Lines.{is_name}
use Rattle.tm_tmpl_types.specs.declared.template.Want.TheVariants as want
use Rattle.tm_tmpl_types.specs.declared.template.Kind.TheVariants.{True}
use Rattle.tm_tmpl_types.specs.declared.template.Selector.TheVariants.{Hart}
use Rattle.tm_tmpl_types.specs.declared.template.SlotText.TheVariants.{Emit}
use Rattle.tm_tmpl_line.specs.Readings.{window, body, slot}
use Rattle.tm_tmpl_line.specs.Pieces.{opening, fixed, a_name, a_number, asm_line, the_end, pieces_of, Fits}
use Rattle.tm_tmpl_line.proofs.TokenLemmas.{token_of}

window_row : (p : Pos) → pieces_of (p, window 0 True 16) ≡ opening p want.Statement (codes "window") ∷ a_number 0
    ∷ fixed want.Kind (codes "true") ∷ a_number 16 ∷ the_end ∷ []
unfolding pieces_of
window_row p = refl

body_row : (p : Pos) → pieces_of (p, body (Hart 3)) ≡ opening p want.Statement (codes "body")
    ∷ fixed want.Selector (codes "hart") ∷ a_number 3 ∷ the_end ∷ []
unfolding pieces_of
body_row p = refl

emit_row : (p : Pos) → pieces_of (p, slot (Emit (codes "nop"))) ≡ opening p want.Statement (codes "emit")
    ∷ asm_line (codes "nop") ∷ the_end ∷ []
unfolding pieces_of
emit_row p = refl

hexadecimal : Fits (a_number 10) (token_of Word (codes "0x0A"))
unfolding number_of digits_reading reading_at value_of place_value
hexadecimal = (refl, refl, omega arith)

sixteen_bytes : Fits (a_name (codes "abcdefghijklmnop")) (token_of Word (codes "abcdefghijklmnop"))
sixteen_bytes = (refl, refl, refl)

seventeen_bytes : is_name (codes "abcdefghijklmnopq") ≡ false
seventeen_bytes = refl

digit_first : is_name (codes "1t") ≡ false
digit_first = refl
