use Rattle.tm_report_run.proofs.Owned.{dword-named}
use Rattle.tm_report_run.proofs.report.saved_dword.Goals as goal

pub overflow_sub-result : goal.overflow_sub-result
overflow_sub-result c = (dword-named c.args.cases.now c.args.h c.args.verdict c.requires.verdict c.requires.some).0

pub returns-clause-saved : goal.returns-clause-saved
returns-clause-saved c = (dword-named c.args.cases.now c.args.h c.args.verdict c.requires.verdict c.requires.some).1
