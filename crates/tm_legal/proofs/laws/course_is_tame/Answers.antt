use Rattle.tm_legal.proofs.Tame.{course-tame}
use Rattle.tm_legal.proofs.laws.course_is_tame.Goals as goal

pub returns : goal.returns
returns c = course-tame c.args.program.now
