-- The template of a sample is read as what it states.
use Rattle.std.proofs.Common.{◌≡◌, ◌<◌, ℕ, zero, suc, ◌+◌, ◌*◌, List, [], ◌∷◌, ◌++◌, Ok, codes, refl, arith}
use Rattle.std.specs.Prelude.{map}
use Rattle.std.specs.List.{flat_map}
use Rattle.std.specs.Fmt.{decimal, digits}
use Rattle.tm_base.specs.Lists.{count_from}
use Rattle.tm_base.specs.Numbers.{number_of, place_value, value_of, reading_at, digits_reading}
use Rattle.tm_base.specs.declared.Pos.{Pos}
use Rattle.tm_lex.specs.Lexing.{tokens_of, is_word, is_separator, words, spans, line_fault, line_tokens}
use Rattle.tm_lex.specs.Lexing.{lines_reading}
use Rattle.tm_tmpl_types.specs.declared.template.Kind.{Kind}
use Rattle.tm_tmpl_types.specs.declared.template.Kind.TheVariants.{True, False, Own}
use Rattle.tm_tmpl_types.specs.declared.template.Selector.TheVariants.{All}
use Rattle.tm_tmpl_types.specs.declared.template.SlotText.TheVariants.{Mix}
use Rattle.tm_tmpl_types.specs.declared.template.CaseDecl.{CaseDecl}
use Rattle.tm_tmpl_types.specs.declared.template.WindowDecl.{WindowDecl}
use Rattle.tm_tmpl_types.specs.declared.template.Template.{Template}
use Rattle.tm_tmpl_read.specs.Grammar.{template_of, choice, token_lines, statements, put_all}
use Rattle.tm_sample.specs.Texts.{sample_case}

-- the text with this number of passes
abbrev pub text_of : ℕ → List ℕ
text_of passes =
    codes "template sample\npasses " ++ decimal passes
    ++ codes "\nwindow 0 true 2\nwindow 1 false 2\nwindow 2 own 8\n" ++ flat_map sample_case (count_from 0 8)

-- the start of a line
abbrev line_start : ℕ → Pos
line_start line = record { line = line; col = 1 }

abbrev window : (line number : ℕ) → Kind → (lines : ℕ) → WindowDecl
window line number kind lines = record { at = line_start line; number = number; kind = kind; lines = lines }

-- case c, of three lines
abbrev case_of : ℕ → CaseDecl
case_of c = record {
  at = line_start (6 + 3 * c);
  name = codes "c" ++ decimal c;
  bodies = (record {
    at = line_start (7 + 3 * c);
    whom = All;
    slots = (record { at = line_start (8 + 3 * c); what = Mix 100 4 3 3 1 }) ∷ [];
  }) ∷ [];
}

-- what the text states
abbrev pub template : ℕ → Template
template passes = record {
  name = codes "sample";
  passes = passes;
  passes_at = line_start 2;
  windows = window 3 0 True 2 ∷ window 4 1 False 2 ∷ window 5 2 Own 8 ∷ [];
  cases = map case_of (count_from 0 8);
  end = line_start 30;
}

-- the text of each number of passes that a sample has
pub template_read : (turn : ℕ) → turn < 3 → template_of (text_of (2 + turn)) ≡ Ok (template (2 + turn))
unfolding template_of choice token_lines statements put_all tokens_of lines_reading line_fault line_tokens spans words
    is_word is_separator number_of digits_reading reading_at value_of place_value digits
template_read zero h = refl
template_read (suc zero) h = refl
template_read (suc (suc zero)) h = refl
template_read (suc (suc (suc turn))) h = absurd (omega (arith, h))
