use Rattle.tm_blocks_base.proofs.Stored.{last_store_runs}
use Rattle.tm_blocks_base.proofs.laws.store.Goals as goal

pub returns : goal.returns
returns c = last_store_runs c.args.cell
