use Rattle.std.proofs.Common.{◌∙◌, ◌<◌, sym, arith, codes, length}
use Rattle.std.proofs.lemmas.Result.{err_from_is_err_and}
use Rattle.std.proofs.lemmas.Bool.Decides.{nat_tests}
use Rattle.tm_tmpl_line.specs.Readings.{template_line}
use Rattle.tm_tmpl_read.specs.Grammar.{start}
use Rattle.tm_tmpl_read.proofs.StepLemmas.{line-ok, line-err, first-place, any_token, at-template, no-template}
use Rattle.tm_tmpl_read.proofs.StepLemmas.{nothing-at-start}
use Rattle.tm_tmpl_read.proofs.read.read_name.Goals as goal

pub returns-then-is_empty-clause-err : goal.returns-then-is_empty-clause-err
returns-then-is_empty-clause-err c = λ _. nothing-at-start c.args.text.now c.args.tokens.now (grind (arith, nat_tests))

pub returns-then-not-opens-clause-err : goal.returns-then-not-opens-clause-err
returns-then-not-opens-clause-err c = λ _.
    let some : 0 < length c.args.tokens.now = grind (arith, nat_tests) in
    rw (← first-place c.args.tokens.now _ some) (no-template c.args.text.now c.args.tokens.now some
    (sym c.opens.ensures.value ∙ c.if-not-opens.true))

pub returns-in_err-template_line-clause-err : goal.returns-in_err-template_line-clause-err
returns-in_err-template_line-clause-err c =
    let p = err_from_is_err_and c.from_residual.result c.from_residual.ensures.1 in
    rw (p.1, p.2) (λ _. line-err c.args.text.now start (codes "template") template_line at-template c.args.tokens.now
    c.line_len-len.result c.line_len-len.ensures.len (sym c.opens.ensures.value ∙ c.if-not-opens.false) _
    c.in_err-template_line.ensures.err)

pub returns-clause-ok : goal.returns-clause-ok
returns-clause-ok c =
    let some = c.opens.ensures.some c.if-not-opens.false in
    rw (c.in_ok-name.ensures.ok, first-place c.args.tokens.now any_token some)
    (line-ok c.args.text.now start (codes "template") template_line at-template c.args.tokens.now c.line_len-len.result
    c.line_len-len.ensures.len (sym c.opens.ensures.value ∙ c.if-not-opens.false)
    any_token some _ _ c.in_ok-template_line.ensures.ok)
