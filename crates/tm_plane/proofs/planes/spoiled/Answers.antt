use Rattle.std.proofs.Common.{arith}
use Rattle.tm_plane.proofs.PlaneLemmas.{spoiled-told}
use Rattle.tm_plane.proofs.planes.spoiled.Goals as goal

pub returns : goal.returns
returns c =
    spoiled-told c.loop-e.out c.args.before.now c.args.mine.now c.args.others.now c.args.held.now
    c.loop-e.invariant.room
    c.told-before c.told-mine c.told-others c.told-held (λ k l. c.loop-e.invariant.made k (omega arith))
