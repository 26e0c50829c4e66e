use Rattle.std.proofs.Common.{◌≡◌, nat_eq, true, false, codes, ◌∙◌, sym, refl, length}
use Rattle.tm_base.proofs.PrintLemmas.{drop_whole}
use Rattle.std.specs.List.{starts_with}
use Rattle.tm_base.specs.Numbers.{number_of}
use Rattle.tm_base.proofs.numbers.read_number.Goals as goal

pub returns-then-starts_with : goal.returns-then-starts_with
unfolding number_of
returns-then-starts_with c =
    let test : starts_with nat_eq c.args.text.now (codes "0x") ≡ true = sym c.if-starts_with.ensures.value in
    rw (← drop_whole c.args.text.now 2 (length c.args.text.now) refl, test) c.read_digits.ensures

pub returns-else-starts_with : goal.returns-else-starts_with
unfolding number_of
returns-else-starts_with c =
    let test : starts_with nat_eq c.args.text.now (codes "0x") ≡ false = sym c.if-starts_with.ensures.value in
    c.read_digits-else-starts_with.ensures ∙ rw test
