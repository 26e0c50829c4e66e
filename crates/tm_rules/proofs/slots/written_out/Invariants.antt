use Rattle.std.proofs.Common.{◌≡◌, take}
use Rattle.tm_rules.specs.Admitting.{written_out}
use Rattle.tm_rules.proofs.slots.written_out.Given as goal

abbrev pub invariant-loop-statement : goal.invariant-loop-statement
invariant-loop-statement l = l.slots ≡ written_out (take l.statement-index l.statements)
