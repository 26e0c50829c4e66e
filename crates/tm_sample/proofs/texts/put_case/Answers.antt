use Rattle.std.proofs.Common.{codes}
use Rattle.std.specs.Fmt.{decimal}
use Rattle.tm_sample.proofs.Puts.{three-put}
use Rattle.tm_sample.proofs.texts.put_case.Goals as goal

pub returns : goal.returns
returns c =
    three-put c.append-2.result c.args.out.now c.append.new.self c.push_decimal.new.out c.append-2.new.self
    (codes "case c") (decimal c.args.c) (codes "\nbody all\nmix 100 alu 4 load 3 store 3 branch 1\n")
    c.in_ok-append.ensures.ok c.in_ok-push_decimal.ensures.ok c.append-2.ensures.ok
