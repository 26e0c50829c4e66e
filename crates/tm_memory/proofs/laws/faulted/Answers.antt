use Rattle.tm_memory.proofs.Faults.{faulted-memory, faulted-half}
use Rattle.tm_memory.proofs.Nothing.{nothing-plain}
use Rattle.tm_memory.proofs.laws.faulted.Goals as goal

pub returns : goal.returns
returns c = record {
  memory = faulted-memory c.args.program.now;
  half = faulted-half c.args.program.now;
  nothing = nothing-plain c.args.program.now;
}
