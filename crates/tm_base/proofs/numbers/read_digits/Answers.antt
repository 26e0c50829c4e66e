use Rattle.std.proofs.Common.{◌≡◌, ◌≢◌, length, sym, arith}
use Rattle.std.proofs.lemmas.Bool.Decides.{nat_tests}
use Rattle.tm_base.proofs.NumberLemmas.{reading_empty, reading_bad, reading_value, reading_large, all_digits}
use Rattle.tm_base.proofs.numbers.read_digits.Goals as goal

pub returns-then-is_empty : goal.returns-then-is_empty
returns-then-is_empty c =
    let none : length c.args.digits.now ≡ 0 = grind (arith, nat_tests) in
    sym (reading_empty c.args.from c.args.base c.args.digits.now none)

pub returns-in-Some : goal.returns-in-Some
returns-in-Some c =
    let some : length c.args.digits.now ≢ 0 = grind (arith, nat_tests) in
    sym (reading_bad c.args.from c.args.base c.in-Some.place c.args.digits.now some (sym c.in-Some.ensures))

pub digits_value-requires-clause-digits : goal.digits_value-requires-clause-digits
digits_value-requires-clause-digits c = all_digits c.args.base c.args.digits.now (sym c.in_default.ensures)

pub returns-in-Some-digits_value : goal.returns-in-Some-digits_value
returns-in-Some-digits_value c =
    let some : length c.args.digits.now ≢ 0 = grind (arith, nat_tests) in
    let (fits, same) = c.in-Some-digits_value.ensures in
    rw same (sym (reading_value c.args.from c.args.base c.args.digits.now some (sym c.in_default.ensures) fits))

pub returns-in-None : goal.returns-in-None
returns-in-None c =
    let some : length c.args.digits.now ≢ 0 = grind (arith, nat_tests) in
    sym (reading_large c.args.from c.args.base c.args.digits.now some (sym c.in_default.ensures) c.in-None.ensures)
