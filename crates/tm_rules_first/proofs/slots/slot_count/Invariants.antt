use Rattle.std.proofs.Common.{◌≡◌, take}
use Rattle.tm_rules_first.specs.Rules.{slot_count}
use Rattle.tm_rules_first.proofs.slots.slot_count.Given as goal

abbrev pub invariant-loop-slot : goal.invariant-loop-slot
invariant-loop-slot l = l.count ≡ slot_count (take l.slot-index l.slots)
