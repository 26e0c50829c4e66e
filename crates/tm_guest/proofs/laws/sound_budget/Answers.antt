use Rattle.tm_guest.proofs.Budgeted.{sound-budget}
use Rattle.tm_guest.proofs.laws.sound_budget.Goals as goal

pub returns : goal.returns
returns c = sound-budget c.args.program.now
