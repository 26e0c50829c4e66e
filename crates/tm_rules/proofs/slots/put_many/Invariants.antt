use Rattle.std.proofs.Common.{◌≡◌, ◌++◌, replicate}
use Rattle.tm_rules.proofs.slots.put_many.Given as goal

abbrev pub invariant-loop : goal.invariant-loop
invariant-loop l = l.slots ≡ l.initial.slots ++ replicate l.counter l.slot
