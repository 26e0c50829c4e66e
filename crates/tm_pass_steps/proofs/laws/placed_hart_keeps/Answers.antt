use Rattle.tm_pass_steps.proofs.Placed.{placed-keeps}
use Rattle.tm_pass_steps.proofs.laws.placed_hart_keeps.Goals as goal

pub returns : goal.returns
returns c = placed-keeps c.args.program.now
