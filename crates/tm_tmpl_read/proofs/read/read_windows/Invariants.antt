use Rattle.std.proofs.Common.{◌≡◌, ◌≤◌, All, length}
use Rattle.tm_lex.specs.Lines.{IsSpan}
use Rattle.tm_tmpl_read.specs.Grammar.{windows}
use Rattle.tm_tmpl_read.specs.Steps.{follows, more_all, windows_at}
use Rattle.tm_tmpl_read.proofs.read.read_windows.Given as goal

abbrev pub invariant-loop-windows : goal.invariant-loop-windows
invariant-loop-windows l = record {
  same : follows l.text l.tokens windows ≡ more_all (windows_at l.windows) (follows l.text l.rest windows);
  spans : All (IsSpan l.text) l.rest;
  less : length l.rest ≤ length l.tokens;
}

abbrev pub decreases-loop-windows : goal.decreases-loop-windows
decreases-loop-windows l = length l.rest
