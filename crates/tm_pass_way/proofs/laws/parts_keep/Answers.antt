use Rattle.tm_pass_way.proofs.Course.{parts-keep}
use Rattle.tm_pass_way.proofs.laws.parts_keep.Goals as goal

pub returns : goal.returns
returns c = parts-keep c.args.program.now
