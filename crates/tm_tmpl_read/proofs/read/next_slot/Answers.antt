use Rattle.std.proofs.Common.{◌∙◌, sym, codes}
use Rattle.std.proofs.lemmas.Result.{err_from_is_err_and}
use Rattle.tm_tmpl_line.specs.Readings.{emit_line, mix_line}
use Rattle.tm_tmpl_read.specs.Grammar.{slots}
use Rattle.tm_tmpl_read.proofs.StepLemmas.{line-ok, line-err, more-one, at-emit, at-mix, after-slots}
use Rattle.tm_tmpl_read.proofs.read.next_slot.Goals as goal

pub returns-in_err-emit_line-clause-next : goal.returns-in_err-emit_line-clause-next
returns-in_err-emit_line-clause-next c =
    let p = err_from_is_err_and c.from_residual.result c.from_residual.ensures.1 in
    rw (p.1, p.2) (λ _. line-err c.args.text.now slots (codes "emit") emit_line at-emit c.args.tokens.now
    c.line_len-len.result c.line_len-len.ensures.len (sym c.opens.ensures.value ∙ c.if-opens.true) _
    c.in_err-emit_line.ensures.err)

pub returns-then-opens-clause-next : goal.returns-then-opens-clause-next
returns-then-opens-clause-next c =
    rw c.in_ok-asm.ensures.ok
    (line-ok c.args.text.now slots (codes "emit") emit_line at-emit c.args.tokens.now c.line_len-len.result
    c.line_len-len.ensures.len (sym c.opens.ensures.value ∙ c.if-opens.true)
    _ (c.opens.ensures.some c.if-opens.true) _ _ c.in_ok-emit_line.ensures.ok ∙ more-one _ _)

pub returns-in_err-what-clause-next : goal.returns-in_err-what-clause-next
returns-in_err-what-clause-next c =
    let p = err_from_is_err_and c.from_residual-in_err-what.result c.from_residual-in_err-what.ensures.1 in
    rw (p.1, p.2) (λ _. line-err c.args.text.now slots (codes "mix") mix_line at-mix c.args.tokens.now
    c.line_len-len-then-opens-2.result c.line_len-len-then-opens-2.ensures.len
    (sym c.opens-2.ensures.value ∙ c.if-opens-2.true) _ c.in_err-what.ensures.err)

pub returns-then-opens-2-clause-next : goal.returns-then-opens-2-clause-next
returns-then-opens-2-clause-next c =
    line-ok c.args.text.now slots (codes "mix") mix_line at-mix c.args.tokens.now c.line_len-len-then-opens-2.result
    c.line_len-len-then-opens-2.ensures.len (sym c.opens-2.ensures.value ∙ c.if-opens-2.true)
    _ (c.opens-2.ensures.some c.if-opens-2.true) _ _ c.in_ok-what.ensures.ok ∙ more-one _ _

pub returns-clause-next : goal.returns-clause-next
returns-clause-next c =
    after-slots c.args.text.now c.args.tokens.now (sym c.opens.ensures.value ∙ c.if-opens.false)
    (sym c.opens-2.ensures.value ∙ c.if-opens-2.false)
