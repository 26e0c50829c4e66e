use Rattle.std.proofs.lemmas.Result.{on_ok_weaker}
use Rattle.tm_blocks_code.proofs.Puts.{puts_none, puts_first}
use Rattle.tm_blocks_code.proofs.put.+put_all.Goals as goal

pub returns-in_default : goal.returns-in_default
returns-in_default _ c = puts_none c.args.code.now c.args.instrs.now c.in_default.len_below

pub returns : goal.returns
returns _ c =
    on_ok_weaker c.put_all.result (λ h. puts_first _ _ _ c.args.instrs.now _ c.in-len1-up.len_at_least
    c.in_ok-put.ensures h) c.put_all.ensures
