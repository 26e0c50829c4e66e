-- Worked rows of the definitions, computed.
use Rattle.std.proofs.Common.{◌≡◌, List, [], ◌∷◌, ◌++◌, ℕ, Ok, Err, codes, refl, arith}
use Rattle.tm_base.specs.Numbers.{number_of, place_value, value_of, reading_at, digits_reading}
use Rattle.tm_lex.specs.Lexing.{tokens_of, is_word, is_separator, words, spans, line_fault, line_tokens, lines_reading}
use Rattle.tm_lex.specs.declared.token.LexFault.TheVariants.{BadByte}
use Rattle.tm_tmpl_types.specs.declared.template.Want.TheVariants as want
use Rattle.tm_tmpl_types.specs.declared.template.TmplFault.TheVariants.{Lex, Early, Expected}
use Rattle.tm_tmpl_types.specs.declared.template.Kind.TheVariants.{True}
use Rattle.tm_tmpl_types.specs.declared.template.Selector.TheVariants.{All}
use Rattle.tm_tmpl_types.specs.declared.template.SlotText.TheVariants.{Emit}
use Rattle.tm_tmpl_types.specs.declared.template.Template.{Template}
use Rattle.tm_lex.specs.declared.token.Token.{Token}
use Rattle.tm_lex.specs.declared.token.TokenKind.{TokenKind}
use Rattle.tm_lex.specs.declared.token.TokenKind.TheVariants.{Word, LineEnd}
use Rattle.tm_lex.specs.Lines.{Lexeme}
use Rattle.tm_tmpl_line.specs.Pieces.{pieces_of}
use Rattle.tm_tmpl_read.specs.Spelled.{Spells}
use Rattle.tm_tmpl_read.specs.Grammar.{template_of, choice, token_lines, statements, put_all}

-- six lines, with what stands for the first and the last
abbrev t0 : List ℕ → List ℕ → List ℕ
t0 first last = first ++ codes "\npasses 2\nwindow 0 true 1\ncase a\nbody all\n" ++ last

abbrev t : Template
t = record {
  name = codes "t";
  passes = 2;
  passes_at = record { line = 2; col = 1 };
  windows = (record { at = record { line = 3; col = 1 }; number = 0; kind = True; lines = 1 }) ∷ [];
  cases = (record {
    at = record { line = 4; col = 1 };
    name = codes "a";
    bodies = (record {
      at = record { line = 5; col = 1 };
      whom = All;
      slots = (record { at = record { line = 6; col = 1 }; what = Emit (codes "addi x6, x5, 1") }) ∷ [];
    }) ∷ [];
  }) ∷ [];
  end = record { line = 7; col = 1 };
}

good : template_of (t0 (codes "template t") (codes "emit addi x6, x5, 1\n")) ≡ Ok t
unfolding template_of choice token_lines statements put_all tokens_of lines_reading line_fault line_tokens spans words
    is_word is_separator number_of digits_reading reading_at value_of place_value
good = refl

nothing : template_of [] ≡ Err (Early want.Template)
unfolding template_of choice token_lines statements put_all tokens_of lines_reading line_fault line_tokens spans words
    is_word is_separator
nothing = refl

bad_name : template_of (t0 (codes "template T") []) ≡ Err (Expected (record { line = 1; col = 10 }) want.Name)
unfolding template_of choice token_lines statements put_all tokens_of lines_reading line_fault line_tokens spans words
    is_word is_separator number_of digits_reading reading_at value_of place_value
bad_name = refl

bad_byte : template_of (codes "template " ++ 7 ∷ codes "t") ≡ Err (Lex (BadByte (record { line = 1; col = 10 }) 7))
unfolding template_of choice token_lines statements put_all tokens_of lines_reading line_fault line_tokens spans words
    is_word is_separator
bad_byte = refl

no_line : template_of (t0 (codes "template t") (codes "emit")) ≡ Err (Expected (record { line = 6; col = 5 }) want.Asm)
unfolding template_of choice token_lines statements put_all tokens_of lines_reading line_fault line_tokens spans words
    is_word is_separator number_of digits_reading reading_at value_of place_value
no_line = refl

twice : template_of (codes "template t\npasses 2\npasses 2")
    ≡ Err (Expected (record { line = 3; col = 1 }) want.Statement)
unfolding template_of choice token_lines statements put_all tokens_of lines_reading line_fault line_tokens spans words
    is_word is_separator number_of digits_reading reading_at value_of place_value
twice = refl

-- the tokens of two lines, and the template that they spell
abbrev token : TokenKind → ℕ → ℕ → ℕ → ℕ → Token
token k line col from to = record { kind = k; at = record { line = line; col = col }; from = from; to = to }

abbrev short : List Lexeme
short =
    (token Word 1 1 0 8, codes "template") ∷ (token Word 1 10 9 10, codes "t") ∷ (token LineEnd 1 11 10 10, [])
    ∷ (token Word 2 1 11 17, codes "passes") ∷ (token Word 2 8 18 19, codes "2") ∷ (token LineEnd 2 9 19 19, []) ∷ []

two_lines : Spells short (record {
  name = codes "t";
  passes = 2;
  passes_at = record { line = 2; col = 1 };
  windows = [];
  cases = [];
  end = record { line = 2; col = 9 };
})
unfolding Spells pieces_of number_of digits_reading reading_at value_of place_value
two_lines = (
  record { line = 1; col = 1 },
  (
    (refl, refl, refl),
    ((refl, refl, refl), (refl, ((refl, refl, refl), ((refl, refl, omega arith), (refl, tt))))),
  ),
)
