use Rattle.std.proofs.Common.{◌++◌, ap, ◌∙◌}
use Rattle.tm_asm.specs.Sheet.{Sheet, puts}
use Rattle.tm_plan_map.specs.Map.{private_at}
use Rattle.tm_blocks_base.specs.Blocks.{constant}
use Rattle.tm_pass_text.specs.Words.{gate}
use Rattle.tm_pass_code.proofs.ends.append_opening.Goals as goal

pub append_code-requires : goal.append_code-requires
append_code-requires c =
    let block = gate c.args.h c.args.n ++ constant 31 (private_at c.args.h) in
    (block, c.in_ok-put_opening.ensures ∙ ap (λ (s : Sheet). puts s block) c.new-code.ensures)

pub returns : goal.returns
returns c =
    let block = gate c.args.h c.args.n ++ constant 31 (private_at c.args.h) in
    c.in_ok-append_code.ensures block (c.in_ok-put_opening.ensures ∙ ap (λ (s : Sheet). puts s block)
    c.new-code.ensures)
