use Rattle.tm_tmpl_read.proofs.LawLemmas.{law-spelled, law-read, law-left, law-fault}
use Rattle.tm_tmpl_read.proofs.laws.grammar.Goals as goal

pub returns-clause-spelled : goal.returns-clause-spelled
returns-clause-spelled c = λ t. (law-spelled c.args.text.now t, law-read c.args.text.now t)

pub returns-clause-left : goal.returns-clause-left
returns-clause-left c = λ e some. (law-left c.args.text.now e, law-fault c.args.text.now e some)
