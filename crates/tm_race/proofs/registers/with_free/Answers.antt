use Rattle.tm_race.proofs.Free.{with-one}
use Rattle.tm_race.proofs.registers.with_free.Goals as goal

pub returns : goal.returns
returns c = with-one c.args.word c.args.held c.args.r c.requires c.if-held-r-eq1.false
