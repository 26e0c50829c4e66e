use Rattle.std.proofs.Common.{List, [], ◌∷◌}
use Rattle.std.proofs.lemmas.Result.{on_ok_weaker}
use Rattle.tm_table.specs.declared.instr.Instr.{Instr}
use Rattle.tm_blocks_base.specs.Instrs.{slli, add, addi}
use Rattle.tm_blocks_base.specs.Blocks.{constant}
use Rattle.tm_blocks_code.proofs.Puts.{and_then}
use Rattle.tm_blocks_compare.specs.Words.{pass_head}
use Rattle.tm_blocks_compare.proofs.words.put_pass_head.Goals as goal

pub returns : goal.returns
unfolding pass_head
returns c =
    let rest : List Instr = slli 2 9 13 ∷ add 2 2 1 ∷ addi 8 0 0 ∷ [] in
    on_ok_weaker c.put_pointers.result (λ h. and_then (constant 1 c.args.first) rest _ _ _
    c.in_ok-put_constant.ensures.words h) c.put_pointers.ensures
