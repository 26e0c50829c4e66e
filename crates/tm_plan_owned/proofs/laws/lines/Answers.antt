use Rattle.tm_plan_owned.proofs.Windows.{lines_are_owned}
use Rattle.tm_plan_owned.proofs.laws.lines.Goals as goal

pub returns : goal.returns
returns c = λ h. lines_are_owned c.args.cases.now h
