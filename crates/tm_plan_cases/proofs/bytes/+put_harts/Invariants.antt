use Rattle.std.proofs.Common.{length}
use Rattle.tm_plan_cases.proofs.bytes.+put_harts.Given as goal

abbrev pub decreases-put_harts : goal.decreases-put_harts
decreases-put_harts l = length l.streams.now
