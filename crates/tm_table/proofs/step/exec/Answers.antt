use Rattle.std.proofs.Common.{rules}
use Rattle.tm_table.specs.Row.{row}
use Rattle.tm_table.proofs.step.exec.Goals as goal

pub returns-clause-state : goal.returns-clause-state
unfolding row
returns-clause-state c = search rules

pub returns-clause-access : goal.returns-clause-access
unfolding row
returns-clause-access c = search rules
