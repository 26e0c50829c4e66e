use Rattle.tm_pass_way.proofs.Judged.{found-verdict}
use Rattle.tm_pass_way.proofs.laws.found_is_verdict.Goals as goal

pub returns : goal.returns
returns c = found-verdict c.args.program.now
