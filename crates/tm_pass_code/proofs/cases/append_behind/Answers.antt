use Rattle.std.proofs.Common.{ap, ◌∙◌}
use Rattle.tm_asm.specs.Sheet.{Sheet, puts}
use Rattle.tm_pass_text.specs.Words.{case_behind}
use Rattle.tm_pass_text.specs.Hart.{blocks_of}
use Rattle.tm_pass_code.proofs.cases.append_behind.Goals as goal

pub append_code-requires : goal.append_code-requires
append_code-requires c =
    let block = case_behind (blocks_of c.args.cases.now c.args.h) c.args.cases.now.passes c.args.c c.args.back c.args.d
    in
    (block, c.in_ok-put_behind.ensures ∙ ap (λ (s : Sheet). puts s block) c.new-code.ensures)

pub returns : goal.returns
returns c =
    let block = case_behind (blocks_of c.args.cases.now c.args.h) c.args.cases.now.passes c.args.c c.args.back c.args.d
    in
    c.in_ok-append_code.ensures block (c.in_ok-put_behind.ensures ∙ ap (λ (s : Sheet). puts s block) c.new-code.ensures)
