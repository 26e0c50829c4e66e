use Rattle.std.proofs.Common.{rules, ◌≡◌, Some, None}
use Rattle.tm_table.specs.Words.{split, decoded}
use Rattle.tm_table.proofs.Decoding.{word-decoded, none-decoded}
use Rattle.tm_table.proofs.coding.decode.Goals as goal

pub returns-in-Some-clause-value : goal.returns-in-Some-clause-value
unfolding decoded
returns-in-Some-clause-value c = search rules

pub returns-in-Some-clause-some : goal.returns-in-Some-clause-some
unfolding decoded
returns-in-Some-clause-some c =
    let e : decoded (split c.args.word) ≡ Some c.read_as.result = search rules in
    word-decoded c.args.word c.read_as.result c.ranges.word.fits e

pub returns-in-None-clause-value : goal.returns-in-None-clause-value
unfolding decoded
returns-in-None-clause-value c = search rules

pub returns-in-None-clause-none : goal.returns-in-None-clause-none
unfolding decoded
returns-in-None-clause-none c =
    let e : decoded (split c.args.word) ≡ None = search rules in
    λ _. none-decoded c.args.word e
