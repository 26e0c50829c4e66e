use Rattle.std.proofs.Common.{◌≡◌, ◌≤◌, All, length}
use Rattle.tm_lex.specs.Lines.{IsSpan}
use Rattle.tm_tmpl_read.specs.Steps.{more_all, case_next, cases_at}
use Rattle.tm_tmpl_read.proofs.read.read_cases.Given as goal

abbrev pub invariant-loop-cases : goal.invariant-loop-cases
invariant-loop-cases l = record {
  same : case_next l.text l.tokens ≡ more_all (cases_at l.cases) (case_next l.text l.rest);
  spans : All (IsSpan l.text) l.rest;
  less : length l.rest ≤ length l.tokens;
}

abbrev pub decreases-loop-cases : goal.decreases-loop-cases
decreases-loop-cases l = length l.rest
