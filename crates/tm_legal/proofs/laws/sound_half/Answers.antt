use Rattle.tm_legal.proofs.Sound.{course-half, sound-half, sound-plain}
use Rattle.tm_legal.proofs.laws.sound_half.Goals as goal

pub returns : goal.returns
returns c = record {
  course = course-half c.args.program.now;
  sound = sound-half c.args.program.now;
  plain = sound-plain c.args.program.now;
}
