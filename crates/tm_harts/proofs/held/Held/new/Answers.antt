use Rattle.tm_harts.proofs.Idle.{no_idle-fresh}
use Rattle.tm_harts.proofs.held.Held.new.Goals as goal

pub invariant_of-result : goal.invariant_of-result
invariant_of-result c = no_idle-fresh c.args.guest c.requires
