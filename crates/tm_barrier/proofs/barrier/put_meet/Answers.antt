use Rattle.std.proofs.Common.{◌++◌}
use Rattle.std.proofs.lemmas.Result.{on_ok_weaker}
use Rattle.tm_base.specs.Lists.{count_from}
use Rattle.tm_barrier.specs.Words.{prepare, signal, waits, meet}
use Rattle.tm_blocks_code.proofs.Puts.{and_then}
use Rattle.tm_barrier.proofs.barrier.put_meet.Goals as goal

pub returns : goal.returns
unfolding meet
returns c =
    let two = and_then prepare (signal c.args.h) _ _ _ c.in_ok-put_prepare.ensures c.in_ok-put_signal.ensures in
    on_ok_weaker c.put_waits.result (λ h. and_then (prepare ++ signal c.args.h)
    (waits c.args.h (count_from 0 c.args.harts)) _ _ _ two h) c.put_waits.ensures
