use Rattle.tm_trace.proofs.Whole.{reads_back}
use Rattle.tm_trace.proofs.laws.reads_back.Goals as goal

pub returns : goal.returns
returns c = reads_back
