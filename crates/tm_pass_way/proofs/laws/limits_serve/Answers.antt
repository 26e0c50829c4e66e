use Rattle.tm_pass_way.proofs.Paces.{limits-serve}
use Rattle.tm_pass_way.proofs.laws.limits_serve.Goals as goal

pub returns : goal.returns
returns c = limits-serve c.args.program.now
