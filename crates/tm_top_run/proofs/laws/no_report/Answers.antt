use Rattle.tm_top_run.proofs.Silent.{no-report}
use Rattle.tm_top_run.proofs.laws.no_report.Goals as goal

pub returns : goal.returns
returns c = no-report c.args.program.now
