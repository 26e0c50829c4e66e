use Rattle.tm_top_line.proofs.Joining.{joined}
use Rattle.tm_top_line.proofs.rule.put_line.Goals as goal

pub returns-in_ok-append-in-OutOfRange : goal.returns-in_ok-append-in-OutOfRange
returns-in_ok-append-in-OutOfRange c =
    rw c.in-OutOfRange.is (joined _ _ _ _ _ _ c.in_ok-append-in-OutOfRange.ensures.ok c.put_signed.ensures)
