use Rattle.std.proofs.Common.{arith, sym, ◌∙◌}
use Rattle.std.proofs.lemmas.Bool.{not_from_false}
use Rattle.tm_rules_slot.proofs.Finding.{team-some, team-none}
use Rattle.tm_rules_slot.proofs.access.stranger.Goals as goal

pub returns-then-not-may_access : goal.returns-then-not-may_access
returns-then-not-may_access c =
    team-some c.args.topo.now c.args.whom _ c.loop-h.h (omega arith) c.loop-h.invariant
    (sym c.is_in_team.ensures ∙ c.if-is_in_team.true)
    (not_from_false _ (sym c.may_access.ensures ∙ c.if-not-may_access.true))

pub returns : goal.returns
returns c = team-none c.args.topo.now c.args.whom _ (λ k low. c.loop-h.invariant k (omega arith))
