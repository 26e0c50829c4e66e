use Rattle.std.proofs.Common.{◌≡◌, ◌≤◌, All, length}
use Rattle.tm_lex.specs.Lines.{IsSpan}
use Rattle.tm_tmpl_read.specs.Grammar.{slots}
use Rattle.tm_tmpl_read.specs.Steps.{follows, more_all, slots_at}
use Rattle.tm_tmpl_read.proofs.read.read_slots.Given as goal

abbrev pub invariant-loop-slots : goal.invariant-loop-slots
invariant-loop-slots l = record {
  same : follows l.text l.tokens slots ≡ more_all (slots_at l.slots) (follows l.text l.rest slots);
  spans : All (IsSpan l.text) l.rest;
  less : length l.rest ≤ length l.tokens;
}

abbrev pub decreases-loop-slots : goal.decreases-loop-slots
decreases-loop-slots l = length l.rest
