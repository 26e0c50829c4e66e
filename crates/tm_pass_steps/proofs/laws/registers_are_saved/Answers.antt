use Rattle.tm_pass_steps.proofs.Saving.{registers-saved}
use Rattle.tm_pass_steps.proofs.laws.registers_are_saved.Goals as goal

pub returns : goal.returns
returns c = registers-saved c.args.program.now
