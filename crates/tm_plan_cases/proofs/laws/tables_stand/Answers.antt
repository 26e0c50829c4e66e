use Rattle.tm_plan_cases.proofs.TableLemmas.{tables-stand}
use Rattle.tm_plan_cases.proofs.laws.tables_stand.Goals as goal

pub returns : goal.returns
returns c = tables-stand c.args.cases.now c.args.masks.now
