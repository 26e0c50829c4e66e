use Rattle.std.proofs.Common.{arith}
use Rattle.tm_plan_owned.proofs.Places.{owned-parts}
use Rattle.tm_plan_owned.proofs.dwords.owned.Goals as goal

pub returns-clause-is : goal.returns-clause-is
returns-clause-is c =
    omega (
      arith,
      owned-parts c.args.cases.now c.args.h c.requires.shaped c.requires.mine,
      c.owned_in.ensures.is,
      c.owned_in-2.ensures.is,
      c.owned_in-3.ensures.is,
    )
