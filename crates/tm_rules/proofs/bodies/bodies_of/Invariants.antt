use Rattle.std.proofs.Common.{◌≡◌, map}
use Rattle.tm_base.specs.Lists.{count_from}
use Rattle.tm_rules.specs.Admitting.{hart_slots}
use Rattle.tm_rules.proofs.bodies.bodies_of.Given as goal

abbrev pub invariant-loop-h : goal.invariant-loop-h
invariant-loop-h l = l.all ≡ map (hart_slots l.topo l.bodies) (count_from 0 l.h)
