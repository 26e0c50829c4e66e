use Rattle.tm_top_line.proofs.Joining.{joined}
use Rattle.tm_top_line.proofs.topology.put_topology.Goals as goal

pub returns-in_ok-append-in-UnknownKey : goal.returns-in_ok-append-in-UnknownKey
returns-in_ok-append-in-UnknownKey c =
    rw c.in-UnknownKey.is (joined _ _ _ _ _ _ c.in_ok-append-in-UnknownKey.ensures.ok
    (rw c.as_slice.ensures at c.put_key.ensures))

pub returns-in-TooManyHarts : goal.returns-in-TooManyHarts
returns-in-TooManyHarts c = rw c.in-TooManyHarts.is (rw c.from.ensures at c.put_value.ensures)
