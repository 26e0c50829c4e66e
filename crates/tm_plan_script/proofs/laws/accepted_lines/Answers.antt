use Rattle.tm_plan_script.proofs.Numbers.{accepted-small}
use Rattle.tm_plan_script.proofs.laws.accepted_lines.Goals as goal

pub returns : goal.returns
returns c = accepted-small c.args.cases.now
