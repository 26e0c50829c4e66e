use Rattle.tm_top.specs.Program.IsOwed.{ends}
use Rattle.tm_top.proofs.program.run.Goals as goal

pub returns : goal.returns
returns g c = ends c.exit_of.ensures
