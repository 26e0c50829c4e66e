use Rattle.std.proofs.Common.{arith}
use Rattle.tm_plane.proofs.PlaneLemmas.{without-told}
use Rattle.tm_plane.proofs.planes.without.Goals as goal

pub returns : goal.returns
returns c = without-told c.loop-e.out c.args.x.now c.args.y.now c.loop-e.invariant.room c.told-x c.told-y
    (λ k l. c.loop-e.invariant.made k (omega arith))
