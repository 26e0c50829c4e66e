use Rattle.tm_pass_steps.proofs.Judging.{case-judged}
use Rattle.tm_pass_steps.proofs.laws.case_is_judged.Goals as goal

pub returns : goal.returns
returns c = case-judged c.args.program.now
