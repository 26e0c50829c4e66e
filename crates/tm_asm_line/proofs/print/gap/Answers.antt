use Rattle.std.proofs.Common.{◌≡◌, ◌≢◌, length, arith, rules}
use Rattle.std.proofs.lemmas.Bool.Decides.{nat_tests}
use Rattle.tm_asm_line.proofs.Printed.{gap-none, gap-some}
use Rattle.tm_asm_line.proofs.print.gap.Goals as goal

pub returns-then-is_empty-clause-gap : goal.returns-then-is_empty-clause-gap
returns-then-is_empty-clause-gap c = let e : length c.args.pieces.now ≡ 0 = grind (arith, nat_tests) in
    rw (gap-none c.args.pieces.now e) (search rules)

pub returns-clause-gap : goal.returns-clause-gap
returns-clause-gap c = let e : length c.args.pieces.now ≢ 0 = grind (arith, nat_tests) in
    rw (gap-some c.args.pieces.now e) (search rules)
