use Rattle.std.proofs.Common.{◌-◌, ◌<◌, length, arith}
use Rattle.tm_plan_cases.specs.Collected.{owned}
use Rattle.tm_report_run.proofs.Owned.{owned-short}
use Rattle.tm_report_run.proofs.report.put_place.Goals as goal

pub push_hex-requires-clause-fits : goal.push_hex-requires-clause-fits
push_hex-requires-clause-fits c =
    let l : c.args.i - 30 < length (owned c.args.cases.now c.args.h) = omega arith in
    rw c.owned_addr.ensures (owned-short c.args.cases.now c.args.h (c.args.i - 30) l)
