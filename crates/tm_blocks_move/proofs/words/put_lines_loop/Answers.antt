use Rattle.std.proofs.lemmas.Result.{on_ok_weaker}
use Rattle.tm_blocks_base.specs.Blocks.{copy_dwords}
use Rattle.tm_blocks_code.proofs.Puts.{and_then}
use Rattle.tm_blocks_move.specs.Words.{line_turn, lines_loop}
use Rattle.tm_blocks_move.proofs.words.put_lines_loop.Goals as goal

pub returns : goal.returns
unfolding lines_loop
returns c =
    on_ok_weaker c.put_line_turn.result (λ h. and_then (copy_dwords 1 0 2 0 c.args.n)
    (line_turn c.args.n c.args.a c.args.b) _ _ _ c.in_ok-put_line.ensures h) c.put_line_turn.ensures
