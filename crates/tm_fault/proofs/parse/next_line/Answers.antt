use Rattle.std.proofs.Common.{◌∙◌, sym, ap, Err}
use Rattle.std.proofs.lemmas.Result.{err_from_is_err_and}
use Rattle.tm_lex.specs.Lines.{lexemes}
use Rattle.tm_fault.specs.declared.fault.FaultScriptFault.TheVariants.{Twice}
use Rattle.tm_fault.proofs.Going.{next_ok, next_twice, next_err}
use Rattle.tm_fault.proofs.Lines.{line_got}
use Rattle.tm_fault.proofs.Rooms.{tabled}
use Rattle.tm_fault.proofs.Shaped.{few_slots}
use Rattle.tm_fault.proofs.parse.next_line.Goals as goal

pub line_at-requires-clause-few : goal.line_at-requires-clause-few
line_at-requires-clause-few c = few_slots c.args.cases.now c.requires.shaped

pub returns-in_err-line-clause-reads : goal.returns-in_err-line-clause-reads
returns-in_err-line-clause-reads c =
    let p = err_from_is_err_and c.from_residual.result c.from_residual.ensures.1 in
    rw (p.1, p.2) (λ before are. next_err c.args.cases.now before
    (lexemes c.args.text.now c.args.tokens.now) _ c.in_err-line.ensures)

pub has-requires : goal.has-requires
has-requires c = tabled c.args.cases.now _ c.in_ok-line.line c.requires.shaped c.requires.entries
    (line_got c.args.cases.now (lexemes c.args.text.now c.args.tokens.now) c.in_ok-line.line
    (lexemes c.args.text.now c.in_ok-line.rest.now) c.in_ok-line.ensures.0).accepted

pub returns-then-has-clause-reads : goal.returns-then-has-clause-reads
returns-then-has-clause-reads c = λ before are.
    next_twice c.args.cases.now before (lexemes c.args.text.now c.args.tokens.now) c.in_ok-line.line
    (lexemes c.args.text.now c.in_ok-line.rest.now)
    c.in_ok-line.ensures.0 (sym (c.has.ensures before are) ∙ c.if-has.true)
    ∙ ap (λ p. Err (Twice p)) (sym (c.first_at.ensures c.args.text.now))

pub returns-clause-reads : goal.returns-clause-reads
returns-clause-reads c = λ before are. (
  next_ok c.args.cases.now before (lexemes c.args.text.now c.args.tokens.now) c.in_ok-line.line
      (lexemes c.args.text.now c.in_ok-line.rest.now)
      c.in_ok-line.ensures.0 (sym (c.has.ensures before are) ∙ c.if-has.false),
  c.in_ok-line.ensures.1,
)

pub returns-clause-tabled : goal.returns-clause-tabled
returns-clause-tabled c = tabled c.args.cases.now _ c.in_ok-line.line c.requires.shaped c.requires.entries
    (line_got c.args.cases.now (lexemes c.args.text.now c.args.tokens.now) c.in_ok-line.line
    (lexemes c.args.text.now c.in_ok-line.rest.now) c.in_ok-line.ensures.0).accepted
