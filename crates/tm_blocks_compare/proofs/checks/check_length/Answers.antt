use Rattle.std.proofs.Common.{◌∙◌, sym}
use Rattle.tm_blocks_compare.proofs.Lengths.{check-none, check-some}
use Rattle.tm_blocks_compare.proofs.checks.check_length.Goals as goal

pub returns-then-line_count-eq0-clause-is : goal.returns-then-line_count-eq0-clause-is
returns-then-line_count-eq0-clause-is c = λ bytes far. check-none c.args.cases.now c.args.h c.args.v bytes far
    (sym c.line_count.ensures.is ∙ c.if-line_count-eq0.true)

pub returns-else-line_count-eq0-clause-is : goal.returns-else-line_count-eq0-clause-is
returns-else-line_count-eq0-clause-is c = λ bytes far. check-some c.args.cases.now c.args.h c.args.v bytes far
    (λ e. c.if-line_count-eq0.false (c.line_count.ensures.is ∙ e))
