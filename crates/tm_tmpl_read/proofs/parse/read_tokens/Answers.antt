use Rattle.std.proofs.Common.{ap, Ok}
use Rattle.tm_tmpl_read.proofs.MadeLemmas.{made-is}
use Rattle.tm_tmpl_read.proofs.parse.read_tokens.Goals as goal

pub returns-clause-ok : goal.returns-clause-ok
returns-clause-ok c =
    rw (
      c.in_ok-name.ensures.ok,
      c.in_ok-passes.ensures.ok,
      c.in_ok-windows.ensures.ok,
      c.in_ok-cases.ensures.ok,
      c.end_of.ensures,
    )
    (ap Ok (made-is c.args.text.now _ _ _ _ _ _))
