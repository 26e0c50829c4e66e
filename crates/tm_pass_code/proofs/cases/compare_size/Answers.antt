use Rattle.std.proofs.Common.{ℕ, sym, ap, ◌∙◌, subst, ◌≤◌}
use Rattle.tm_asm.specs.Sheet.{Sheet, puts}
use Rattle.tm_blocks_compare.specs.Words.{compare_case}
use Rattle.tm_pass_code.proofs.Blank.{plain-length}
use Rattle.tm_pass_code.proofs.cases.compare_size.Goals as goal

pub returns-clause-is : goal.returns-clause-is
returns-clause-is c =
    let block = compare_case c.args.cases.now c.args.c c.args.h in
    c.len.ensures ∙ plain-length _ block (c.in_ok-put_compare.ensures.words ∙ ap (λ (s : Sheet). puts s block)
    c.new-code.ensures)

pub returns-clause-few : goal.returns-clause-few
returns-clause-few c =
    let block = compare_case c.args.cases.now c.args.c c.args.h in
    let same = c.len.ensures ∙ plain-length _ block
    (c.in_ok-put_compare.ensures.words ∙ ap (λ (s : Sheet). puts s block) c.new-code.ensures) in
    subst (λ (n : ℕ). n ≤ 143) (sym same) c.in_ok-put_compare.ensures.short
