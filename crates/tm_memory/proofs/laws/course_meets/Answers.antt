use Rattle.tm_memory.proofs.Meets.{course-meets}
use Rattle.tm_memory.proofs.laws.course_meets.Goals as goal

pub returns : goal.returns
returns c = course-meets c.args.program.now
