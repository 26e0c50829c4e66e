-- A worked row of the printed form, computed.
use Rattle.std.proofs.Common.{◌≡◌, [], ◌∷◌, codes, refl}
use Rattle.std.specs.Fmt.{digits}
use Rattle.tm_tmpl_types.specs.declared.template.Kind.TheVariants.{True}
use Rattle.tm_tmpl_types.specs.declared.template.Selector.TheVariants.{All}
use Rattle.tm_tmpl_types.specs.declared.template.SlotText.TheVariants.{Emit}
use Rattle.tm_tmpl_types.specs.declared.template.Template.{Template}
use Rattle.tm_tmpl.specs.Printed.{nowhere, printed, lines_of, line_of, words_of}

abbrev t : Template
t = record {
  name = codes "t";
  passes = 2;
  passes_at = nowhere;
  windows = (record { at = nowhere; number = 0; kind = True; lines = 1 }) ∷ [];
  cases = (record {
    at = nowhere;
    name = codes "a";
    bodies = (record {
      at = nowhere;
      whom = All;
      slots = (record { at = nowhere; what = Emit (codes "addi x6, x5, 1") })
          ∷ [];
    }) ∷ [];
  }) ∷ [];
  end = nowhere;
}

print : printed t ≡ codes "template t\npasses 2\nwindow 0 true 1\ncase a\nbody all\nemit addi x6, x5, 1\n"
unfolding printed lines_of line_of words_of digits
print = refl
