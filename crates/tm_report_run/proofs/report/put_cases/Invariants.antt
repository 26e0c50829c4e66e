use Rattle.std.proofs.Common.{◌≡◌, ◌++◌, drop}
use Rattle.tm_report_run.specs.Report.{cases_lines}
use Rattle.tm_report_run.proofs.report.put_cases.Given as goal

abbrev pub invariant-loop-c : goal.invariant-loop-c
invariant-loop-c l =
    l.out ++ cases_lines l.cases l.verdicts l.c (drop l.c l.cases.cases)
    ≡ l.initial.out ++ cases_lines l.cases l.verdicts 0 l.cases.cases
