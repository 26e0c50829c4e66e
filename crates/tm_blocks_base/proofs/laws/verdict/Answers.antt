use Rattle.tm_blocks_base.proofs.Masks.{verdict_agrees}
use Rattle.tm_blocks_base.proofs.laws.verdict.Goals as goal

pub returns : goal.returns
returns c = verdict_agrees c.args.pass c.args.dwords
