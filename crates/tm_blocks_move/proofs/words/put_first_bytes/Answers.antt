use Rattle.std.proofs.Common.{arith}
use Rattle.tm_blocks_move.specs.Lines.{first_window, first_bytes}
use Rattle.tm_blocks_code.proofs.Puts.{none_yet, one_more, all_done}
use Rattle.tm_blocks_move.proofs.Blocks.{first_bytes_runs}
use Rattle.tm_blocks_move.proofs.Sizes.{length-first}
use Rattle.tm_blocks_move.proofs.words.put_first_bytes.Goals as goal

pub loop-v-init : goal.loop-v-init
loop-v-init c = none_yet (first_window c.args.cases.now c.args.h c.args.from) 0 0 c.args.code.now (omega arith)

pub loop-v-preserved : goal.loop-v-preserved
loop-v-preserved c = one_more (first_window c.args.cases.now c.args.h c.args.from) 0 c.loop-v.v _ _ _ _ _ (omega arith)
    (omega arith) c.loop-v.invariant c.in_ok-put_first_window.ensures

pub returns-clause-words : goal.returns-clause-words
unfolding first_bytes
returns-clause-words c = all_done (first_window c.args.cases.now c.args.h c.args.from) 0 c.loop-v.v 3 _ _ (omega arith)
    c.loop-v.invariant

pub returns-clause-short : goal.returns-clause-short
returns-clause-short c = length-first c.args.cases.now c.args.h c.args.from c.requires.shaped

pub returns-clause-runs : goal.returns-clause-runs
returns-clause-runs c = first_bytes_runs c.args.cases.now c.args.h c.args.from
