use Rattle.tm_pass_text.proofs.Spreads.{spread-apart}
use Rattle.tm_pass_text.proofs.laws.spread_is_apart.Goals as goal

pub returns : goal.returns
returns c = spread-apart c.args.program.now
