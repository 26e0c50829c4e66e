use Rattle.tm_asm.proofs.Words.{branch-fits, jump-fits}
use Rattle.tm_asm.proofs.code.word_at.Goals as goal

pub encode-requires-in-Branch : goal.encode-requires-in-Branch
encode-requires-in-Branch c =
    let good = rw c.in-Branch.is at c.requires.good in
    rw c.in_ok-i-in-Branch.ensures.ok (branch-fits _ _ _ _ _ good.0 good.1 good.2 c.in_ok-i-in-Branch.ensures.near)

pub encode-requires-in-Jump : goal.encode-requires-in-Jump
encode-requires-in-Jump c =
    let good = rw c.in-Jump.is at c.requires.good in
    rw c.in_ok-i-in-Jump.ensures.ok (jump-fits _ _ _ good c.in_ok-i-in-Jump.ensures.near)
