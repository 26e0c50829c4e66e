use Rattle.std.proofs.Common.{◌≡◌, map, take}
use Rattle.tm_rules.specs.Admitting.{admitted_case}
use Rattle.tm_rules.proofs.bodies.cases_of.Given as goal

abbrev pub invariant-loop-case : goal.invariant-loop-case
invariant-loop-case l = l.all ≡ map (admitted_case l.topo) (take l.case-index l.cases)
