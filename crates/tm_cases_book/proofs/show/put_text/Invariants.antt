use Rattle.std.proofs.Common.{◌≡◌, ◌++◌, take}
use Rattle.std.specs.List.{flat_map}
use Rattle.tm_cases_book.specs.Texts.{shown_byte}
use Rattle.tm_cases_book.proofs.show.put_text.Given as goal

abbrev pub invariant-loop-byte : goal.invariant-loop-byte
invariant-loop-byte l = l.out ≡ l.initial.out ++ flat_map shown_byte (take l.byte-index l.bytes)
