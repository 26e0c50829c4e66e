use Rattle.std.specs.BTreeMap.{get}
use Rattle.std.specs.Ordering.{nat_cmp}
use Rattle.tm_owing.specs.Writes.{away_at, last_at}
use Rattle.tm_owing.proofs.Placed.{nothing-at}
use Rattle.tm_owing.proofs.writes.Writes.none.Goals as goal

pub returns : goal.returns
unfolding last_at away_at
returns c = λ b.
    nothing-at c.in_ok-near.near.items _ _ c.in_ok-near.ensures
    (nothing-at c.in_ok-shared.shared.items (get nat_cmp c.nothing_far.result b) _ c.in_ok-shared.ensures
    (c.nothing_far.ensures b))
