use Rattle.tm_top_owed.proofs.Simulations.{simulated}
use Rattle.tm_top_owed.proofs.simulated.Simulated.of.Goals as goal

pub returns-clause-simulated : goal.returns-clause-simulated
returns-clause-simulated c =
    let its = c.into_journal.ensures in
    simulated c.args.program.now c.args.guest c.into_journal.result.events c.requires.sound
    c.requires.accepted c.requires.over
    its.events its.faulted its.plain its.few
