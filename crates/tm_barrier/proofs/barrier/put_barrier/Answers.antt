use Rattle.std.proofs.Common.{[], ◌∷◌, ◌++◌, length, ap, ◌∙◌, arith, length-append}
use Rattle.tm_asm.specs.Sheet.{Sheet}
use Rattle.tm_asm.proofs.Append.{length-puts}
use Rattle.tm_blocks_base.specs.Instrs.{fence, go_to}
use Rattle.tm_blocks_code.proofs.Puts.{and_then}
use Rattle.tm_barrier.specs.Words.{meet, barrier}
use Rattle.tm_barrier.proofs.Meet.{meet_runs, fence_runs, return_runs, length-barrier}
use Rattle.tm_barrier.proofs.barrier.put_barrier.Goals as goal

pub returns-clause-words : goal.returns-clause-words
unfolding barrier
returns-clause-words c =
    let most = meet c.args.h c.args.harts in
    let two = and_then most (fence ∷ []) _ _ _ c.in_ok-put_meet.ensures c.in_ok-put_fence.ensures in
    and_then (most ++ fence ∷ []) (go_to 1 ∷ []) _ _ _ two c.in_ok-put_return.ensures

pub returns-clause-exit : goal.returns-clause-exit
returns-clause-exit c =
    let most = meet c.args.h c.args.harts in
    let two = and_then most (fence ∷ []) _ _ _ c.in_ok-put_meet.ensures c.in_ok-put_fence.ensures in
    c.len-exit.ensures ∙ ap (λ (s : Sheet). length s.items) two ∙ length-puts c.args.code.now (most ++ fence ∷ []) ∙
    omega (arith, length-append most (fence ∷ []))

pub returns-clause-short : goal.returns-clause-short
returns-clause-short c = length-barrier c.args.h c.args.harts

pub returns-clause-runs : goal.returns-clause-runs
returns-clause-runs c = meet_runs c.args.h c.args.harts

pub returns-clause-fence : goal.returns-clause-fence
returns-clause-fence c = fence_runs

pub returns-clause-back : goal.returns-clause-back
returns-clause-back c = return_runs
