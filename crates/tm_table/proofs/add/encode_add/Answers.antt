use Rattle.std.proofs.Common.{ap, ◌∙◌}
use Rattle.tm_table.specs.Adds.{add_of}
use Rattle.tm_table.proofs.AddWords.{add-back}
use Rattle.tm_table.proofs.add.encode_add.Goals as goal

pub returns-clause-back : goal.returns-clause-back
returns-clause-back c = ap add_of c.joined.ensures ∙ add-back c.args.a c.requires
