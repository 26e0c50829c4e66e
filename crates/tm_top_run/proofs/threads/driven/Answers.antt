use Rattle.std.proofs.Common.{ℕ, List, sym, ap, subst, length, ◌∙◌}
use Rattle.tm_plan_script.specs.declared.faults.FaultLine.{FaultLine}
use Rattle.tm_plan_script.specs.Accepted.{AreAccepted}
use Rattle.tm_harts.specs.Mills.{AreAllOf}
use Rattle.tm_harts.proofs.Callers.{all_back}
use Rattle.tm_top_owed.proofs.Simulations.{never_stuck}
use Rattle.tm_top_run.specs.Steps.{IsToldOf}
use Rattle.tm_top_run.proofs.Telling.{over_driven, script_driven, limit_driven}
use Rattle.tm_top_run.proofs.threads.driven.Goals as goal

pub start-requires-clause-unstuck : goal.start-requires-clause-unstuck
start-requires-clause-unstuck g c =
    never_stuck c.args.program.now c.args.faults c.requires.sound c.requires.accepted

pub close-guest-requires : goal.close-guest-requires
close-guest-requires g c =
    all_back c.in_ok-mill.mill c.in_ok-mill.seats.len c.in_ok-mill.seats.items c.run_threads.new.seats
    (sym c.deref_mut.ensures.len ∙ ap length c.deref_mut.ensures.value)
    (c.run_threads.ensures.same ∙ ap length c.deref_mut.ensures.value)
    (c.run_threads.ensures.all
    (subst (AreAllOf c.in_ok-mill.mill) (sym c.deref_mut.ensures.value) c.in_ok-mill.ensures.all))

pub told-requires-clause-accepted : goal.told-requires-clause-accepted
told-requires-clause-accepted g c =
    subst (AreAccepted c.args.program.now.cases)
    (sym (script_driven c.args.program.now c.args.faults c.args.events c.in_ok-mill.mill c.in_ok-guest.guest
    c.close-guest.result c.run_round.new.self c.in_ok-guest.ensures c.in_ok-mill.ensures.guest
    c.close-guest.ensures.guest c.run_round.ensures.same)) c.requires.accepted

pub told-requires-clause-over : goal.told-requires-clause-over
told-requires-clause-over g c =
    over_driven c.args.program.now c.args.faults c.args.events c.in_ok-mill.mill c.in_ok-guest.guest
    c.close-guest.result c.run_round.new.self c.run_round.result c.requires.sound c.requires.accepted
    c.in_ok-guest.ensures c.in_ok-mill.ensures.guest c.close-guest.ensures.guest c.close-guest.ensures.no_idle
    c.run_round.ensures.same c.run_round.ensures.end c.run_round.ensures.bounded
