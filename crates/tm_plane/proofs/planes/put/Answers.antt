use Rattle.tm_plane.proofs.PlaneLemmas.{put-told}
use Rattle.tm_plane.proofs.planes.put.Goals as goal

pub returns : goal.returns
returns c = put-told c.args.plane.now c.args.addr c.args.width c.span-e.result.0 c.span-e.result.1 c.told-plane
    c.span-e.ensures
