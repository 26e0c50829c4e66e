use Rattle.tm_pass_way.proofs.Joining.{steps-turn}
use Rattle.tm_pass_way.proofs.laws.steps_make_turns.Goals as goal

pub returns : goal.returns
returns c = steps-turn c.args.program.now
