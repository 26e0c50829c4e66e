use Rattle.tm_top_owed.proofs.Simulations.{never_stuck, over}
use Rattle.tm_top_owed.proofs.simulated.run_in_order.Goals as goal

pub start-requires-clause-unstuck : goal.start-requires-clause-unstuck
start-requires-clause-unstuck c =
    never_stuck c.args.program.now c.args.faults c.requires.sound c.requires.accepted

pub returns-clause-over : goal.returns-clause-over
returns-clause-over c =
    over c.args.program.now c.args.faults c.args.events c.in_ok-guest.guest c.run_round.new.self
    c.run_round.result c.requires.sound c.requires.accepted c.in_ok-guest.ensures c.run_round.ensures.same
    c.run_round.ensures.end c.run_round.ensures.bounded
