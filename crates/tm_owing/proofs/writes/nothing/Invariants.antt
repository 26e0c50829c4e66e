use Rattle.tm_owing.specs.Writes.{HasNothing}
use Rattle.tm_owing.proofs.writes.nothing.Given as goal

abbrev pub invariant-loop-i : goal.invariant-loop-i
invariant-loop-i l = HasNothing l.near.items
