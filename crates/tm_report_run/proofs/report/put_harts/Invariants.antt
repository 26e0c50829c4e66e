use Rattle.std.proofs.Common.{◌≡◌, ◌++◌, drop}
use Rattle.tm_report_run.specs.Report.{hart_lines}
use Rattle.tm_report_run.proofs.report.put_harts.Given as goal

abbrev pub invariant-loop-h : goal.invariant-loop-h
invariant-loop-h l =
    l.out ++ hart_lines l.cases l.c l.name l.h (drop l.h l.verdicts)
    ≡ l.initial.out ++ hart_lines l.cases l.c l.name 0 l.verdicts
