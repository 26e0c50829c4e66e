use Rattle.tm_plane.proofs.PlaneLemmas.{overwrite-told}
use Rattle.tm_plane.proofs.planes.overwrite.Goals as goal

pub returns : goal.returns
returns c =
    overwrite-told c.args.plane.now c.args.addr c.args.width c.span-e.result.0 c.span-e.result.1 c.told-plane
    c.span-e.ensures
    c.args.own.now c.args.marks c.args.covered c.overwritten.result c.overwritten.ensures
