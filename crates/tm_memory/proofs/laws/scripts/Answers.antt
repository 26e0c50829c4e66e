use Rattle.tm_memory.proofs.Keeping.{course-keeps, sound-keeps}
use Rattle.tm_memory.proofs.laws.scripts.Goals as goal

pub returns : goal.returns
returns c = record { course = course-keeps c.args.program.now; sound = sound-keeps c.args.program.now }
