use Rattle.std.proofs.Common.{◌≡◌, ◌++◌, drop}
use Rattle.tm_report.specs.Listing.{slot_lines}
use Rattle.tm_report.proofs.slots.put_slots.Given as goal

abbrev pub invariant-loop-i : goal.invariant-loop-i
invariant-loop-i l = l.out ++ slot_lines l.i (drop l.i l.words) ≡ l.initial.out ++ slot_lines 0 l.words
