use Rattle.tm_buffered_rounds.proofs.Budget.{drawn-budget, sound-budget}
use Rattle.tm_buffered_rounds.proofs.laws.drawn_budget.Goals as goal

pub returns : goal.returns
returns c = record {
  budget = drawn-budget c.args.program.now;
  sound = sound-budget c.args.program.now;
}
