use Rattle.tm_meet.proofs.First.{first-settles, course-kept}
use Rattle.tm_meet.proofs.Dwords.{dwords-set}
use Rattle.tm_meet.proofs.laws.first_bytes.Goals as goal

pub returns : goal.returns
returns c = record {
  settles = first-settles c.args.program.now;
  dwords = dwords-set c.args.program.now;
  course = course-kept c.args.program.now;
}
