use Rattle.std.proofs.Common.{◌∙◌, ◌<◌, sym, arith, codes, length}
use Rattle.std.proofs.lemmas.Result.{err_from_is_err_and}
use Rattle.std.proofs.lemmas.Bool.Decides.{nat_tests}
use Rattle.tm_tmpl_line.specs.Readings.{passes_line}
use Rattle.tm_tmpl_read.specs.Grammar.{head}
use Rattle.tm_tmpl_read.proofs.StepLemmas.{line-ok, line-err, first-place, at-passes, no-passes, nothing-at-head}
use Rattle.tm_tmpl_read.proofs.read.read_passes.Goals as goal

pub returns-then-is_empty-clause-err : goal.returns-then-is_empty-clause-err
returns-then-is_empty-clause-err c = nothing-at-head c.args.text.now c.args.tokens.now (grind (arith, nat_tests))

pub returns-then-not-opens-clause-err : goal.returns-then-not-opens-clause-err
returns-then-not-opens-clause-err c =
    let some : 0 < length c.args.tokens.now = grind (arith, nat_tests) in
    rw (← first-place c.args.tokens.now _ some) (no-passes c.args.text.now c.args.tokens.now some
    (sym c.opens.ensures.value ∙ c.if-not-opens.true))

pub returns-in_err-passes-clause-err : goal.returns-in_err-passes-clause-err
returns-in_err-passes-clause-err c =
    let p = err_from_is_err_and c.from_residual.result c.from_residual.ensures.1 in
    rw (p.1, p.2) (line-err c.args.text.now head (codes "passes") passes_line at-passes c.args.tokens.now
    c.line_len-len.result c.line_len-len.ensures.len (sym c.opens.ensures.value ∙ c.if-not-opens.false) _
    c.in_err-passes.ensures.err)

pub returns-clause-ok : goal.returns-clause-ok
returns-clause-ok c =
    line-ok c.args.text.now head (codes "passes") passes_line at-passes c.args.tokens.now c.line_len-len.result
    c.line_len-len.ensures.len (sym c.opens.ensures.value ∙ c.if-not-opens.false)
    _ (c.opens.ensures.some c.if-not-opens.false) _ _ c.in_ok-passes.ensures.ok
