use Rattle.tm_blocks_compare.proofs.Whole.{compare_all_runs}
use Rattle.tm_blocks_compare.proofs.Least.{names_least_of_all}
use Rattle.tm_blocks_compare.proofs.laws.compare.Goals as goal

pub returns-clause-runs : goal.returns-clause-runs
returns-clause-runs c = compare_all_runs c.args.cases.now

pub returns-clause-least : goal.returns-clause-least
returns-clause-least c = names_least_of_all c.args.cases.now
