use Rattle.std.proofs.Common.{ap, ◌∙◌}
use Rattle.tm_asm.specs.Sheet.{Sheet, puts}
use Rattle.tm_pass_text.specs.Words.{case_before}
use Rattle.tm_pass_text.specs.Hart.{blocks_of}
use Rattle.tm_pass_code.proofs.cases.append_before.Goals as goal

pub append_code-requires : goal.append_code-requires
append_code-requires c =
    let block = case_before (blocks_of c.args.cases.now c.args.h) c.args.c c.args.d in
    (block, c.in_ok-put_before.ensures ∙ ap (λ (s : Sheet). puts s block) c.new-code.ensures)

pub returns : goal.returns
returns c =
    let block = case_before (blocks_of c.args.cases.now c.args.h) c.args.c c.args.d in
    c.in_ok-append_code.ensures block (c.in_ok-put_before.ensures ∙ ap (λ (s : Sheet). puts s block) c.new-code.ensures)
