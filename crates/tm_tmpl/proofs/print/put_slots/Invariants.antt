use Rattle.std.proofs.Common.{◌≡◌, ◌++◌, take}
use Rattle.tm_tmpl.specs.Printed.{lines_of}
use Rattle.tm_tmpl_read.specs.Steps.{slots_at}
use Rattle.tm_tmpl.proofs.print.put_slots.Given as goal

abbrev pub invariant-loop-slot : goal.invariant-loop-slot
invariant-loop-slot l = l.out ≡ l.initial.out ++ lines_of (slots_at (take l.slot-index l.slots))
