use Rattle.tm_race_walk.specs.Taints.{StandsAt}
use Rattle.tm_race_walk.proofs.ends.end_of.Given as goal

abbrev pub invariant-loop-i : goal.invariant-loop-i
invariant-loop-i l = StandsAt l.fn.case l.fn.h l.i l.t
