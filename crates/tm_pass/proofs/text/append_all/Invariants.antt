use Rattle.std.proofs.Common.{◌≡◌, ◌++◌, take}
use Rattle.tm_pass.proofs.text.append_all.Given as goal

abbrev pub invariant-loop-n : goal.invariant-loop-n
invariant-loop-n l = l.out ≡ l.initial.out ++ take l.n-index l.numbers
