use Rattle.tm_pace.proofs.Pace.{phases-end, phases-add_up, pace-bounds, pace-holds, faulted-pace_holds}
use Rattle.tm_pace.proofs.Budget.{quiet-ends}
use Rattle.tm_pace.proofs.laws.bound.Goals as goal

pub returns : goal.returns
returns c = record {
  phases = phases-end c.args.program.now;
  sum = phases-add_up c.args.program.now;
  pace = pace-bounds c.args.program.now;
  memory = pace-holds c.args.program.now;
  faulted =
      faulted-pace_holds c.args.program.now;
  quiet = quiet-ends c.args.program.now;
}
