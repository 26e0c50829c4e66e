use Rattle.tm_rules_first.specs.Rules.{broken_rule, checks_of}
use Rattle.tm_rules_first.proofs.FirstLemmas.{is-first, first-is, none-broken, first-none}
use Rattle.tm_rules_first.proofs.laws.first.Goals as goal

pub returns-clause-some : goal.returns-clause-some
unfolding broken_rule
returns-clause-some c = λ r. (
  is-first (checks_of c.args.topo.now c.args.t.now) r,
  first-is (checks_of c.args.topo.now c.args.t.now) r,
)

pub returns-clause-none : goal.returns-clause-none
unfolding broken_rule
returns-clause-none c = (
  none-broken (checks_of c.args.topo.now c.args.t.now),
  first-none (checks_of c.args.topo.now c.args.t.now),
)
