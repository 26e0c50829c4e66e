use Rattle.std.proofs.Common.{ℕ, List, ◌≤◌, ◌∙◌, sym, subst}
use Rattle.tm_plan_cases.specs.Collected.{budget_of}
use Rattle.tm_plan_script.specs.declared.faults.FaultLine.{FaultLine}
use Rattle.tm_plan_script.specs.Accepted.{AreAccepted}
use Rattle.tm_base.specs.declared.limits.TheConstants.{DEFAULT_EVENTS}
use Rattle.tm_guest.proofs.Budgeted.{sound-budget}
use Rattle.tm_top_owed.specs.Runs.{IsRoundOrder}
use Rattle.tm_top_sample.proofs.Running.{summed_whole, summary_of}
use Rattle.tm_top_sample.proofs.simulated.simulated.Goals as goal

pub run_in_order-requires-clause-accepted : goal.run_in_order-requires-clause-accepted
run_in_order-requires-clause-accepted c =
    subst (AreAccepted c.args.program.now.cases) (sym c.nothing.ensures) (sound-budget c.args.program.now).none

pub of-requires-clause-accepted : goal.of-requires-clause-accepted
of-requires-clause-accepted c =
    subst (AreAccepted c.args.program.now.cases) (sym (c.in_ok-guest.ensures.script ∙ c.nothing.ensures))
    (sound-budget c.args.program.now).none

pub returns : goal.returns
returns c =
    let p = c.args.program.now in
    let g = c.in_ok-guest.guest in
    let its = c.in_ok-guest.ensures in
    let kept = c.of.result in
    let room = subst (λ (n : ℕ). budget_of p.cases ≤ n) (sym its.limit) c.requires.room in
    let order = subst (λ (ls : List FaultLine). IsRoundOrder p ls DEFAULT_EVENTS g.journal) c.nothing.ensures its.order
    in
    summary_of c.args.n p g kept.journal.events kept.text c.in_ok-text.text kept.status 0 its.over
    (its.script ∙ c.nothing.ensures) its.limit order
    c.of.ensures.simulated c.of.ensures.journal c.of.ensures.text c.of.ensures.status
    (summed_whole c.args.n p g c.journal.result.now.events c.in_ok-text.text its.over (its.over.ends room)
    c.journal.ensures.events c.in_ok-text.ensures)
