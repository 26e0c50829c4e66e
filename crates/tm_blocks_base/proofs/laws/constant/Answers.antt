use Rattle.std.proofs.Common.{arith}
use Rattle.tm_blocks_base.proofs.Constant.{constant_runs}
use Rattle.tm_blocks_base.proofs.laws.constant.Goals as goal

pub returns : goal.returns
returns c = constant_runs c.args.rd c.args.value c.requires.0 (omega (arith, c.ranges.value.fits))
