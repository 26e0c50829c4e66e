use Rattle.std.proofs.Common.{◌≡◌, subst, sym, rules}
use Rattle.tm_table.specs.Words.{word_of, InRange, parts_of}
use Rattle.tm_table.proofs.Decoding.{encoded-in_range, decoded-word, word-lt}
use Rattle.tm_table.proofs.coding.encode.Goals as goal

pub join-requires : goal.join-requires
join-requires c = let e : c.parts_as.result ≡ parts_of c.args.i = search rules in
    subst InRange (sym e) (encoded-in_range c.args.i c.requires)

pub returns-clause-value : goal.returns-clause-value
unfolding word_of
returns-clause-value c = search rules

pub returns-clause-back : goal.returns-clause-back
returns-clause-back c = decoded-word c.args.i c.requires

pub returns-clause-range : goal.returns-clause-range
returns-clause-range c = word-lt c.args.i c.requires
