use Rattle.std.proofs.Common.{Err}
use Rattle.tm_tmpl_read.specs.Grammar.{template_of}
use Rattle.tm_tmpl_read.specs.Steps.{follows}
use Rattle.tm_tmpl_read.proofs.LawLemmas.{spelled-result, left-result, only-result, writable-result, stated-result}
use Rattle.tm_tmpl_read.proofs.parse.parse_template.Goals as goal
use Rattle.tm_lex.proofs.SpanLemmas.{within}

pub read_tokens-requires-clause-spans : goal.read_tokens-requires-clause-spans
read_tokens-requires-clause-spans c = rw c.as_slice.ensures (within c.args.text.now 0 _ c.in-Ok.ensures.in_order)

pub returns-in-Ok-clause-ok : goal.returns-in-Ok-clause-ok
unfolding template_of follows
returns-in-Ok-clause-ok c = rw c.in-Ok.ensures.ok (rw c.as_slice.ensures at c.read_tokens.ensures.ok)

pub returns-in-Ok-clause-err : goal.returns-in-Ok-clause-err
unfolding template_of follows
returns-in-Ok-clause-err c = rw c.in-Ok.ensures.ok (rw c.as_slice.ensures at c.read_tokens.ensures.err)

pub returns-in-Err-clause-err : goal.returns-in-Err-clause-err
unfolding template_of
returns-in-Err-clause-err c = λ other.
    let fault = c.of_tokens.ensures.cause other in
    rw (fault.1, c.in-Err.ensures.err fault.0)

pub returns-in-Ok-clause-spelled : goal.returns-in-Ok-clause-spelled
returns-in-Ok-clause-spelled c = spelled-result c.args.text.now c.read_tokens.result (returns-in-Ok-clause-ok c)
    (returns-in-Ok-clause-err c)

pub returns-in-Ok-clause-left : goal.returns-in-Ok-clause-left
returns-in-Ok-clause-left c = left-result c.args.text.now c.read_tokens.result (returns-in-Ok-clause-ok c)
    (returns-in-Ok-clause-err c)

pub returns-in-Ok-clause-only : goal.returns-in-Ok-clause-only
returns-in-Ok-clause-only c = only-result c.args.text.now c.read_tokens.result (returns-in-Ok-clause-ok c)
    (returns-in-Ok-clause-err c)

pub returns-in-Ok-clause-writable : goal.returns-in-Ok-clause-writable
returns-in-Ok-clause-writable c = writable-result c.args.text.now c.read_tokens.result (returns-in-Ok-clause-ok c)
    (returns-in-Ok-clause-err c)

pub returns-in-Ok-clause-stated : goal.returns-in-Ok-clause-stated
returns-in-Ok-clause-stated c = stated-result c.args.text.now c.read_tokens.result (returns-in-Ok-clause-ok c)
    (returns-in-Ok-clause-err c)

pub returns-in-Err-clause-left : goal.returns-in-Err-clause-left
returns-in-Err-clause-left c = left-result c.args.text.now (Err c.of_tokens.result) tt (returns-in-Err-clause-err c)

pub returns-in-Err-clause-only : goal.returns-in-Err-clause-only
returns-in-Err-clause-only c = only-result c.args.text.now (Err c.of_tokens.result) tt (returns-in-Err-clause-err c)

pub returns-in-Err-clause-stated : goal.returns-in-Err-clause-stated
returns-in-Err-clause-stated c = stated-result c.args.text.now (Err c.of_tokens.result) tt (returns-in-Err-clause-err c)
