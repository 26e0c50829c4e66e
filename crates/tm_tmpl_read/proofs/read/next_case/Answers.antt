use Rattle.std.proofs.Common.{◌∙◌, ◌<◌, sym, ap, arith, codes, length}
use Rattle.std.proofs.lemmas.Result.{err_from_is_err_and}
use Rattle.tm_tmpl_line.specs.Readings.{case_line}
use Rattle.std.proofs.lemmas.Bool.Decides.{nat_tests}
use Rattle.tm_tmpl_read.specs.Grammar.{cases, more}
use Rattle.tm_tmpl_read.proofs.StepLemmas.{line-ok, line-err, first-place, any_token, more-more, at-case, case-opens}
use Rattle.tm_tmpl_read.proofs.StepLemmas.{no-case, no-more, after-case}
use Rattle.tm_tmpl_read.proofs.read.next_case.Goals as goal

pub returns-then-is_empty-clause-next : goal.returns-then-is_empty-clause-next
returns-then-is_empty-clause-next c = no-more c.args.text.now c.args.tokens.now (grind (arith, nat_tests))

pub returns-then-not-opens-clause-next : goal.returns-then-not-opens-clause-next
returns-then-not-opens-clause-next c = λ _.
    let some : 0 < length c.args.tokens.now = grind (arith, nat_tests) in
    rw (← first-place c.args.tokens.now _ some) (no-case c.args.text.now c.args.tokens.now some
    (sym c.opens.ensures.value ∙ c.if-not-opens.true))

pub returns-in_err-case_line-clause-next : goal.returns-in_err-case_line-clause-next
returns-in_err-case_line-clause-next c =
    let p = err_from_is_err_and c.from_residual.result c.from_residual.ensures.1 in
    let opens = sym c.opens.ensures.value ∙ c.if-not-opens.false in
    rw (p.1, p.2) (λ _. case-opens c.args.text.now c.args.tokens.now opens
    ∙ line-err c.args.text.now cases (codes "case") case_line at-case c.args.tokens.now c.line_len-len.result
    c.line_len-len.ensures.len opens _ c.in_err-case_line.ensures.err)

pub returns-in_err-bodies-clause-next : goal.returns-in_err-bodies-clause-next
returns-in_err-bodies-clause-next c =
    let p = err_from_is_err_and c.from_residual-in_err-bodies.result c.from_residual-in_err-bodies.ensures.1 in
    let opens = sym c.opens.ensures.value ∙ c.if-not-opens.false in
    rw (p.1, p.2) (λ other. case-opens c.args.text.now c.args.tokens.now opens
    ∙ line-ok c.args.text.now cases (codes "case") case_line at-case c.args.tokens.now c.line_len-len.result
    c.line_len-len.ensures.len opens
    any_token (c.opens.ensures.some c.if-not-opens.false) _ _ c.in_ok-case_line.ensures.ok
    ∙ ap (more _) (after-case _ _ ∙ c.in_err-bodies.ensures.err other))

pub returns-clause-next : goal.returns-clause-next
returns-clause-next c =
    let opens = sym c.opens.ensures.value ∙ c.if-not-opens.false in
    rw c.in_ok-name.ensures.ok
    (case-opens c.args.text.now c.args.tokens.now opens
    ∙ line-ok c.args.text.now cases (codes "case") case_line at-case c.args.tokens.now c.line_len-len.result
    c.line_len-len.ensures.len opens
    _ (c.opens.ensures.some c.if-not-opens.false) _ _ c.in_ok-case_line.ensures.ok
    ∙ ap (more _) (after-case _ _ ∙ c.in_ok-bodies.ensures.ok) ∙ more-more _ _ _)
