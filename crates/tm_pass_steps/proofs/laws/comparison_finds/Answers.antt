use Rattle.tm_pass_steps.proofs.Found.{comparison-finds}
use Rattle.tm_pass_steps.proofs.laws.comparison_finds.Goals as goal

pub returns : goal.returns
returns c = comparison-finds c.args.program.now
