use Rattle.tm_pass_steps.proofs.Entering.{registers-loaded}
use Rattle.tm_pass_steps.proofs.laws.registers_are_loaded.Goals as goal

pub returns : goal.returns
returns c = registers-loaded c.args.program.now
