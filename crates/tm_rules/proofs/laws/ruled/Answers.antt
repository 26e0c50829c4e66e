use Rattle.tm_rules.proofs.RuledLemmas.{admitted-ruled}
use Rattle.tm_rules.proofs.laws.ruled.Goals as goal

pub returns : goal.returns
returns c = admitted-ruled c.args.topo.now c.args.t.now c.requires
