use Rattle.std.proofs.Common.{◌≡◌, ◌≤◌, ◌-◌, length, drop}
use Rattle.tm_elf_head.specs.Differences.{difference_from}
use Rattle.tm_elf_head.proofs.difference.first_difference.Given as goal

abbrev pub invariant-loop-at : goal.invariant-loop-at
invariant-loop-at l = record {
  left : l.at ≤ length l.a;
  right : l.at ≤ length l.b;
  same : difference_from l.at (drop l.at l.a) (drop l.at l.b) ≡ difference_from 0 l.a l.b;
}

abbrev pub decreases-loop-at : goal.decreases-loop-at
decreases-loop-at l = length l.a - l.at
