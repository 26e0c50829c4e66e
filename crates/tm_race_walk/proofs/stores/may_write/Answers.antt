use Rattle.std.proofs.Common.{◌∙◌}
use Rattle.tm_race_walk.proofs.stores.may_write.Goals as goal

pub returns : goal.returns
returns c = c.has.ensures ∙ c.store_plane-plane.ensures c.args.addr
