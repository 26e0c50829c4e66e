use Rattle.tm_place.specs.Placed.{sharing_of}
use Rattle.tm_place.proofs.AllowedLemmas.{shown-of}
use Rattle.tm_rules.proofs.Passing.{line-passes, weights-pass}
use Rattle.tm_rules.proofs.laws.ruled_slots_pass.Goals as goal

pub returns-clause-lines : goal.returns-clause-lines
returns-clause-lines c = λ topo whom n len text harts few some line.
    line-passes (sharing_of c.args.p.now) c.args.p.now.shape topo whom n len text (shown-of c.args.p.now) harts few some
    line

pub returns-clause-weights : goal.returns-clause-weights
returns-clause-weights c = weights-pass c.args.p.now.shape
