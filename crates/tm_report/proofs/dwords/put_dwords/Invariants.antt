use Rattle.std.proofs.Common.{◌≡◌, ◌++◌, filter}
use Rattle.std.specs.List.{flat_map}
use Rattle.tm_report.proofs.Growing.{dwords_to}
use Rattle.tm_report.specs.Listing.{is_listed, dword_entry}
use Rattle.tm_report.proofs.dwords.put_dwords.Given as goal

abbrev pub invariant-loop-number : goal.invariant-loop-number
invariant-loop-number l =
    l.out ≡ l.initial.out ++ flat_map (dword_entry l.bytes) (filter (is_listed l.cases l.bytes) (dwords_to l.number))
