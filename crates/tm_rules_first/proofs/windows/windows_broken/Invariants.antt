use Rattle.std.proofs.Common.{◌≡◌, []}
use Rattle.tm_rules_first.specs.Rules.{first_of, in_turn, window_checks}
use Rattle.tm_rules_first.proofs.TurnLemmas.{rest_of}
use Rattle.tm_rules_first.proofs.windows.windows_broken.Given as goal

abbrev pub invariant-loop-k : goal.invariant-loop-k
invariant-loop-k l = first_of (in_turn (window_checks l.topo) [] l.windows)
    ≡ rest_of (window_checks l.topo) l.windows l.k
