use Rattle.std.proofs.Common.{arith}
use Rattle.tm_barrier.specs.Words.{turn, waits}
use Rattle.tm_blocks_code.proofs.Puts.{none_yet, one_more, all_done}
use Rattle.tm_barrier.proofs.barrier.put_waits.Goals as goal

pub loop-g-init : goal.loop-g-init
loop-g-init c = none_yet (turn c.args.h) 0 0 c.args.code.now (omega arith)

pub loop-g-preserved : goal.loop-g-preserved
loop-g-preserved c = one_more (turn c.args.h) 0 c.loop-g.g _ _ _ _ _ (omega arith) (omega arith) c.loop-g.invariant
    c.in_ok-put_turn.ensures

pub returns : goal.returns
unfolding waits
returns c = all_done (turn c.args.h) 0 c.loop-g.g c.args.harts _ _ (omega arith) c.loop-g.invariant
