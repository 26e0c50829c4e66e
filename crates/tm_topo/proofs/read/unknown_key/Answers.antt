use Rattle.tm_topo.proofs.KeyLemmas.{unknown_key-found}
use Rattle.tm_topo.proofs.read.unknown_key.Goals as goal

pub returns : goal.returns
returns c = unknown_key-found c.args.table.now.entries c.first_unknown.result c.first_unknown.ensures.ordered
    c.first_unknown.ensures.found
