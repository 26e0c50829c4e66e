use Rattle.tm_race.specs.Masks.{EachIs, IsMask}
use Rattle.tm_race.proofs.masks.track.Given as goal

abbrev pub invariant-loop-c : goal.invariant-loop-c
invariant-loop-c l = EachIs (IsMask l.cases) l.c l.masks
