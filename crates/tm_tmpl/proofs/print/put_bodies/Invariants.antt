use Rattle.std.proofs.Common.{◌≡◌, ◌++◌, take}
use Rattle.tm_tmpl.specs.Printed.{lines_of}
use Rattle.tm_tmpl_read.specs.Steps.{bodies_at}
use Rattle.tm_tmpl.proofs.print.put_bodies.Given as goal

abbrev pub invariant-loop-body : goal.invariant-loop-body
invariant-loop-body l = l.out ≡ l.initial.out ++ lines_of (bodies_at (take l.body-index l.bodies))
