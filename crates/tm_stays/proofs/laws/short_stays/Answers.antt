use Rattle.tm_stays.proofs.Stays.{stay-short, stays-short, works-little, ends-soon}
use Rattle.tm_stays.proofs.laws.short_stays.Goals as goal

pub returns : goal.returns
returns c = record {
  stay = stay-short c.args.program.now;
  short = stays-short c.args.program.now;
  work = works-little c.args.program.now;
  all = ends-soon c.args.program.now;
}
