use Rattle.tm_top_owed.specs.Runs.{events_in}
use Rattle.tm_top.proofs.program.exit_of.Goals as goal

pub returns : goal.returns
returns g c = record {
  journal = events_in c.outcome_of-outcome.result.journal;
  owed = rw c.from.ensures c.outcome_of-outcome.ensures;
}
