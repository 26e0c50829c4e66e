use Rattle.std.proofs.Common.{arith}
use Rattle.tm_plan_owned.proofs.Places.{addr-at}
use Rattle.tm_plan_owned.proofs.dwords.addr_in.Goals as goal

pub returns : goal.returns
returns c =
    addr-at c.args.cases.now c.args.h c.args.v c.args.j _ _ _ c.requires.shaped c.requires.some c.line_addr.ensures.is
    (omega (arith, c.stride_of.ensures.is)) (omega (arith, c.dwords_of.ensures.is))
