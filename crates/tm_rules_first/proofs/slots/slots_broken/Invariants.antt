use Rattle.std.proofs.Common.{◌≡◌, [], take}
use Rattle.tm_rules_first.specs.Rules.{first_of, in_turn, total_slots, slot_checks}
use Rattle.tm_rules_first.proofs.TurnLemmas.{rest_of}
use Rattle.tm_rules_first.proofs.slots.slots_broken.Given as goal

abbrev pub invariant-loop-slot : goal.invariant-loop-slot
invariant-loop-slot l = (l.at ≡ total_slots (take l.slot-index l.slots))
    × (first_of (in_turn (slot_checks l.topo l.p.shape l.whom l.len) [] l.slots)
    ≡ rest_of (slot_checks l.topo l.p.shape l.whom l.len) l.slots l.slot-index)
