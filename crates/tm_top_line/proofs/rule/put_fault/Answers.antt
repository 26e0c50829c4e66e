use Rattle.tm_top_line.proofs.Joining.{joined}
use Rattle.tm_top_line.proofs.rule.put_fault.Goals as goal

pub returns-in_ok-append-in-NotAllowed : goal.returns-in_ok-append-in-NotAllowed
returns-in_ok-append-in-NotAllowed c =
    rw c.in-NotAllowed.is (joined _ _ _ _ _ _ c.in_ok-append-in-NotAllowed.ensures.ok c.put_op.ensures)
