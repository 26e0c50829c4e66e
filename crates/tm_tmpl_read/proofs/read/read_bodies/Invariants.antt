use Rattle.std.proofs.Common.{◌≡◌, ◌≤◌, All, length}
use Rattle.tm_lex.specs.Lines.{IsSpan}
use Rattle.tm_tmpl_read.specs.Steps.{more_all, body_next, bodies_at}
use Rattle.tm_tmpl_read.proofs.read.read_bodies.Given as goal

abbrev pub invariant-loop-bodies : goal.invariant-loop-bodies
invariant-loop-bodies l = record {
  same : body_next l.text l.tokens ≡ more_all (bodies_at l.bodies) (body_next l.text l.rest);
  spans : All (IsSpan l.text) l.rest;
  less : length l.rest ≤ length l.tokens;
}

abbrev pub decreases-loop-bodies : goal.decreases-loop-bodies
decreases-loop-bodies l = length l.rest
