use Rattle.std.proofs.Common.{◌≡◌, ◌++◌, take}
use Rattle.tm_tmpl.specs.Printed.{lines_of}
use Rattle.tm_tmpl_read.specs.Steps.{cases_at}
use Rattle.tm_tmpl.proofs.print.put_cases.Given as goal

abbrev pub invariant-loop-case : goal.invariant-loop-case
invariant-loop-case l = l.out ≡ l.initial.out ++ lines_of (cases_at (take l.case-index l.cases))
