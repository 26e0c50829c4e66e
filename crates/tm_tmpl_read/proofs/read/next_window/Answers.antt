use Rattle.std.proofs.Common.{◌∙◌, sym, codes}
use Rattle.std.proofs.lemmas.Result.{err_from_is_err_and}
use Rattle.tm_tmpl_line.specs.Readings.{window_line}
use Rattle.tm_tmpl_read.specs.Grammar.{windows}
use Rattle.tm_tmpl_read.proofs.StepLemmas.{line-ok, line-err, more-one, at-window, no-window}
use Rattle.tm_tmpl_read.proofs.read.next_window.Goals as goal

pub returns-then-not-opens-clause-next : goal.returns-then-not-opens-clause-next
returns-then-not-opens-clause-next c =
    no-window c.args.text.now c.args.tokens.now (sym c.opens.ensures.value ∙ c.if-not-opens.true)

pub returns-in_err-number-clause-next : goal.returns-in_err-number-clause-next
returns-in_err-number-clause-next c =
    let p = err_from_is_err_and c.from_residual.result c.from_residual.ensures.1 in
    rw (p.1, p.2) (λ _. line-err c.args.text.now windows (codes "window") window_line at-window c.args.tokens.now
    c.line_len-len.result c.line_len-len.ensures.len (sym c.opens.ensures.value ∙ c.if-not-opens.false) _
    c.in_err-number.ensures.err)

pub returns-clause-next : goal.returns-clause-next
returns-clause-next c =
    line-ok c.args.text.now windows (codes "window") window_line at-window c.args.tokens.now c.line_len-len.result
    c.line_len-len.ensures.len (sym c.opens.ensures.value ∙ c.if-not-opens.false)
    _ (c.opens.ensures.some c.if-not-opens.false) _ _ c.in_ok-number.ensures.ok ∙ more-one _ _
