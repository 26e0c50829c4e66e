use Rattle.std.proofs.Common.{◌≡◌, ◌++◌, take}
use Rattle.tm_plan_cases.specs.Tables.{dwords_bytes}
use Rattle.tm_plan_cases.proofs.bytes.put_dwords.Given as goal

abbrev pub invariant-loop-n : goal.invariant-loop-n
invariant-loop-n l = l.out ≡ l.initial.out ++ dwords_bytes (take l.n-index l.numbers)
