use Rattle.std.proofs.Common.{◌≡◌, ◌++◌, ◌-◌, filter}
use Rattle.std.specs.List.{flat_map}
use Rattle.tm_base.specs.Lists.{count_from}
use Rattle.tm_report.specs.Listing.{is_unchecked, register_entry}
use Rattle.tm_report.proofs.registers.put_registers.Given as goal

abbrev pub invariant-loop-r : goal.invariant-loop-r
invariant-loop-r l =
    l.out ≡ l.initial.out ++ flat_map register_entry (filter (is_unchecked l.mask) (count_from 1 (l.r - 1)))
