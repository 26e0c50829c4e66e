use Rattle.std.proofs.Common.{◌∙◌, sym, ap, codes}
use Rattle.std.proofs.lemmas.Result.{err_from_is_err_and}
use Rattle.tm_tmpl_line.specs.Readings.{body_line}
use Rattle.tm_tmpl_read.specs.Grammar.{cases, more}
use Rattle.tm_tmpl_read.proofs.StepLemmas.{line-ok, line-err, any_token, more-more, at-body, body-opens, no-body}
use Rattle.tm_tmpl_read.proofs.read.next_body.Goals as goal

pub returns-then-not-opens-clause-next : goal.returns-then-not-opens-clause-next
returns-then-not-opens-clause-next c =
    no-body c.args.text.now c.args.tokens.now (sym c.opens.ensures.value ∙ c.if-not-opens.true)

pub returns-in_err-whom-clause-next : goal.returns-in_err-whom-clause-next
returns-in_err-whom-clause-next c =
    let p = err_from_is_err_and c.from_residual.result c.from_residual.ensures.1 in
    let opens = sym c.opens.ensures.value ∙ c.if-not-opens.false in
    rw (p.1, p.2) (λ _. body-opens c.args.text.now c.args.tokens.now opens
    ∙ line-err c.args.text.now cases (codes "body") body_line at-body c.args.tokens.now c.line_len-len.result
    c.line_len-len.ensures.len opens _ c.in_err-whom.ensures.err)

pub returns-in_err-slots-clause-next : goal.returns-in_err-slots-clause-next
returns-in_err-slots-clause-next c =
    let p = err_from_is_err_and c.from_residual-in_err-slots.result c.from_residual-in_err-slots.ensures.1 in
    let opens = sym c.opens.ensures.value ∙ c.if-not-opens.false in
    rw (p.1, p.2) (λ other. body-opens c.args.text.now c.args.tokens.now opens
    ∙ line-ok c.args.text.now cases (codes "body") body_line at-body c.args.tokens.now c.line_len-len.result
    c.line_len-len.ensures.len opens
    any_token (c.opens.ensures.some c.if-not-opens.false) _ _ c.in_ok-whom.ensures.ok
    ∙ ap (more _) (c.in_err-slots.ensures.err other))

pub returns-clause-next : goal.returns-clause-next
returns-clause-next c =
    let opens = sym c.opens.ensures.value ∙ c.if-not-opens.false in
    body-opens c.args.text.now c.args.tokens.now opens
    ∙ line-ok c.args.text.now cases (codes "body") body_line at-body c.args.tokens.now c.line_len-len.result
    c.line_len-len.ensures.len opens
    _ (c.opens.ensures.some c.if-not-opens.false) _ _ c.in_ok-whom.ensures.ok
    ∙ ap (more _) c.in_ok-slots.ensures.ok ∙ more-more _ _ _
