use Rattle.std.proofs.Common.{arith}
use Rattle.tm_blocks_base.specs.Blocks.{copy_dword, copy_dwords}
use Rattle.tm_blocks_code.proofs.Puts.{none_yet, one_more, all_done}
use Rattle.tm_blocks_move.proofs.words.put_line.Goals as goal

pub loop-j-init : goal.loop-j-init
loop-j-init c = none_yet (copy_dword c.args.from 0 c.args.to 0) 0 0 c.args.code.now (omega arith)

pub loop-j-preserved : goal.loop-j-preserved
loop-j-preserved c = one_more (copy_dword c.args.from 0 c.args.to 0) 0 c.loop-j.j _ _ _ _ _ (omega arith) (omega arith)
    c.loop-j.invariant c.in_ok-put_dword.ensures

pub returns : goal.returns
unfolding copy_dwords
returns c = all_done (copy_dword c.args.from 0 c.args.to 0) 0 c.loop-j.j c.args.n _ _ (omega arith) c.loop-j.invariant
