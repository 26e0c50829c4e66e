use Rattle.std.proofs.Common.{length}
use Rattle.tm_plan_owned.proofs.steps.+work_in.Given as goal

abbrev pub decreases-work_in : goal.decreases-work_in
decreases-work_in l = length l.list.now
