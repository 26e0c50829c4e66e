use Rattle.tm_memory.proofs.Memory.{memory-half}
use Rattle.tm_memory.proofs.PlainMemory.{plain-memory, plain-half}
use Rattle.tm_memory.proofs.laws.one_memory.Goals as goal

pub returns : goal.returns
returns c = record {
  half = memory-half c.args.program.now;
  plain = plain-memory c.args.program.now;
  plain_half = plain-half c.args.program.now;
}
