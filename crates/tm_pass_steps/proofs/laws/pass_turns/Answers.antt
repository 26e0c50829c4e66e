use Rattle.tm_pass_steps.proofs.Turning.{pass-turns}
use Rattle.tm_pass_steps.proofs.laws.pass_turns.Goals as goal

pub returns : goal.returns
returns c = pass-turns c.args.program.now
