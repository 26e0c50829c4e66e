use Rattle.std.proofs.Common.{◌-◌}
use Rattle.tm_plan_owned.proofs.steps.+work_from.Given as goal

abbrev pub decreases-work_from : goal.decreases-work_from
decreases-work_from l = l.cases.now.harts - l.h
