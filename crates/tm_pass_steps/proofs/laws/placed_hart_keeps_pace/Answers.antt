use Rattle.tm_pass_steps.proofs.Placed.{placed-paces}
use Rattle.tm_pass_steps.proofs.laws.placed_hart_keeps_pace.Goals as goal

pub returns : goal.returns
returns c = placed-paces c.args.program.now
