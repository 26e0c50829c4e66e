use Rattle.std.proofs.Common.{ℕ, length, sym, ap, ◌∙◌, subst, ◌≤◌}
use Rattle.tm_asm.specs.Sheet.{Sheet, puts}
use Rattle.tm_blocks_move.specs.Lines.{first_bytes}
use Rattle.tm_pass_text.specs.Hart.{first_at}
use Rattle.tm_pass_code.proofs.Blank.{plain-length}
use Rattle.tm_pass_code.proofs.cases.first_size.Goals as goal

pub returns-clause-is : goal.returns-clause-is
returns-clause-is c =
    let block = first_bytes c.args.cases.now c.args.h (first_at c.args.cases.now c.args.c) in
    c.len.ensures ∙ plain-length _ block (c.in_ok-put_first_bytes.ensures.words ∙ ap
    (λ (x : ℕ). puts c.new-code.result (first_bytes c.args.cases.now c.args.h x)) c.first_addr.ensures.is ∙ ap
    (λ (s : Sheet). puts s block) c.new-code.ensures)

pub returns-clause-few : goal.returns-clause-few
returns-clause-few c =
    let block = first_bytes c.args.cases.now c.args.h (first_at c.args.cases.now c.args.c) in
    let same = c.len.ensures ∙ plain-length _ block
    (c.in_ok-put_first_bytes.ensures.words ∙ ap
    (λ (x : ℕ). puts c.new-code.result (first_bytes c.args.cases.now c.args.h x)) c.first_addr.ensures.is ∙ ap
    (λ (s : Sheet). puts s block) c.new-code.ensures) in
    subst (λ (n : ℕ). n ≤ 183) (sym same) (subst (λ (x : ℕ). length (first_bytes c.args.cases.now c.args.h x) ≤ 183)
    c.first_addr.ensures.is c.in_ok-put_first_bytes.ensures.short)
