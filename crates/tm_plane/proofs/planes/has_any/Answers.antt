use Rattle.tm_plane.proofs.PlaneLemmas.{any-told}
use Rattle.tm_plane.proofs.planes.has_any.Goals as goal

pub returns : goal.returns
returns c = any-told c.args.plane.now c.args.addr c.args.width c.span-e.result.0 c.span-e.result.1 c.meets.result
    c.span-e.ensures c.meets.ensures
