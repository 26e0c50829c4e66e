use Rattle.tm_race.specs.Masks.{EachIs, IsStores}
use Rattle.tm_race.proofs.planes.store_planes.Given as goal

abbrev pub invariant-loop-h : goal.invariant-loop-h
invariant-loop-h l = EachIs (IsStores l.case) l.h l.planes
