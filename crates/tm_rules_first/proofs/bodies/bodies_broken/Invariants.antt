use Rattle.std.proofs.Common.{◌≡◌, []}
use Rattle.tm_rules_first.specs.Rules.{first_of, in_turn, body_checks}
use Rattle.tm_rules_first.proofs.TurnLemmas.{rest_of}
use Rattle.tm_rules_first.proofs.bodies.bodies_broken.Given as goal

abbrev pub invariant-loop-k : goal.invariant-loop-k
invariant-loop-k l = first_of (in_turn (body_checks l.topo l.p.shape) [] l.bodies)
    ≡ rest_of (body_checks l.topo l.p.shape) l.bodies l.k
