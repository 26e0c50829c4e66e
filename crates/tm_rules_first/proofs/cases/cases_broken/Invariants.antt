use Rattle.std.proofs.Common.{◌≡◌, [], length}
use Rattle.tm_rules_first.specs.Rules.{first_of, in_turn, case_checks}
use Rattle.tm_rules_first.proofs.TurnLemmas.{rest_of}
use Rattle.tm_rules_first.proofs.cases.cases_broken.Given as goal

abbrev pub invariant-loop-k : goal.invariant-loop-k
invariant-loop-k l = first_of (in_turn (case_checks l.topo l.p.shape (length l.cases)) [] l.cases)
    ≡ rest_of (case_checks l.topo l.p.shape (length l.cases)) l.cases l.k
