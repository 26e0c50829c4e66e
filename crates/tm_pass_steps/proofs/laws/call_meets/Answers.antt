use Rattle.tm_pass_steps.proofs.Meet.{call-meets}
use Rattle.tm_pass_steps.proofs.laws.call_meets.Goals as goal

pub returns : goal.returns
returns c = call-meets c.args.program.now
