use Rattle.std.proofs.Common.{length}
use Rattle.tm_plan_cases.proofs.bytes.+put_cases.Given as goal

abbrev pub decreases-put_cases : goal.decreases-put_cases
decreases-put_cases l = length l.cases.now
