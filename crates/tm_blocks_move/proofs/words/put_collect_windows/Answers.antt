use Rattle.std.proofs.Common.{arith}
use Rattle.tm_blocks_move.specs.Lines.{collect_window, collect_windows}
use Rattle.tm_blocks_code.proofs.Puts.{none_yet, one_more, all_done}
use Rattle.tm_blocks_move.proofs.words.put_collect_windows.Goals as goal

pub loop-v-init : goal.loop-v-init
loop-v-init c = none_yet (collect_window c.args.cases.now c.args.h) 0 0 c.args.code.now (omega arith)

pub loop-v-preserved : goal.loop-v-preserved
loop-v-preserved c = one_more (collect_window c.args.cases.now c.args.h) 0 c.loop-v.v _ _ _ _ _ (omega arith)
    (omega arith) c.loop-v.invariant c.in_ok-put_collect_window.ensures

pub returns : goal.returns
unfolding collect_windows
returns c = all_done (collect_window c.args.cases.now c.args.h) 0 c.loop-v.v 3 _ _ (omega arith) c.loop-v.invariant
