use Rattle.std.proofs.Common.{◌≡◌, ap, ◌∙◌, length, arith}
use Rattle.tm_asm.specs.Sheet.{Sheet, puts}
use Rattle.tm_barrier.specs.Words.{barrier}
use Rattle.tm_pass_code.proofs.Blank.{plain-length}
use Rattle.tm_pass_code.proofs.ends.barrier_size.Goals as goal

pub returns-clause-is : goal.returns-clause-is
returns-clause-is c =
    let block = barrier c.args.h c.args.harts in
    c.len.ensures ∙ plain-length _ block (c.in_ok-put_barrier.ensures.words ∙ ap (λ (s : Sheet). puts s block)
    c.new-code.ensures)

pub returns-clause-few : goal.returns-clause-few
returns-clause-few c =
    let block = barrier c.args.h c.args.harts in
    let same : c.len.result ≡ length block =
    c.len.ensures ∙ plain-length _ block (c.in_ok-put_barrier.ensures.words ∙ ap (λ (s : Sheet). puts s block)
    c.new-code.ensures) in
    omega (arith, same, c.in_ok-put_barrier.ensures.short)
