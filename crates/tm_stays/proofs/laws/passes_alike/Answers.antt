use Rattle.tm_stays.proofs.Alike.{passes-alike}
use Rattle.tm_stays.proofs.laws.passes_alike.Goals as goal

pub returns : goal.returns
returns c = passes-alike c.args.program.now
