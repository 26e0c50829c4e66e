use Rattle.std.proofs.Common.{◌≡◌, ◌++◌, map, take}
use Rattle.tm_top_line.specs.Inputs.{shown as shown_as}
use Rattle.tm_top_line.proofs.values.put_key.Given as goal

abbrev pub invariant-loop-byte : goal.invariant-loop-byte
invariant-loop-byte l = l.out ≡ l.initial.out ++ map shown_as (take l.byte-index l.key)
