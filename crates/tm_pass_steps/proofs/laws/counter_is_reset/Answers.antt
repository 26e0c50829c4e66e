use Rattle.tm_pass_steps.proofs.Counting.{counter-reset}
use Rattle.tm_pass_steps.proofs.laws.counter_is_reset.Goals as goal

pub returns : goal.returns
returns c = counter-reset c.args.program.now
