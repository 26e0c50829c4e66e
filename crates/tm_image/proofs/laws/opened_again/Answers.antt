use Rattle.tm_image.proofs.Opening.{opened-again}
use Rattle.tm_image.proofs.laws.opened_again.Goals as goal

pub returns : goal.returns
returns c = opened-again c.args.topo.now c.args.template.now
