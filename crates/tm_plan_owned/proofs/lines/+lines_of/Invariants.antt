use Rattle.std.proofs.Common.{length}
use Rattle.tm_plan_owned.proofs.lines.+lines_of.Given as goal

abbrev pub decreases-lines_of : goal.decreases-lines_of
decreases-lines_of l = length l.windows.now
