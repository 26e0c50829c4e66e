use Rattle.std.proofs.Common.{◌≡◌, ◌≤◌, ◌+◌, ◌-◌, drop, length, ◌==◌}
use Rattle.std.specs.List.{slice_split}
use Rattle.tm_lex.specs.Lexing.{before, lines_reading, tokens_of}
use Rattle.tm_lex.proofs.lines.read_lines.Given as goal

abbrev pub invariant-loop-out : goal.invariant-loop-out
invariant-loop-out l = record {
  same : before l.out (lines_reading l.number l.from (slice_split (λ b. b == 10) (drop l.from l.text)))
      ≡ tokens_of l.text;
  within : l.from ≤ length l.text;
  number : l.number ≤ l.from + 1;
}

abbrev pub decreases-loop-out : goal.decreases-loop-out
decreases-loop-out l = length l.text + 1 - l.from
