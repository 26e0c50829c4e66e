use Rattle.std.proofs.Common.{◌≡◌, ◌≤◌, ◌-◌, ◌++◌, drop, length, map}
use Rattle.tm_lex.specs.Lexing.{words, token_at, as_words}
use Rattle.tm_lex.proofs.lines.put_words.Given as goal

abbrev pub invariant-loop-from : goal.invariant-loop-from
invariant-loop-from l = record {
  same : l.out ++ map (token_at l.number l.start) (as_words (words l.at (drop l.at l.bytes)))
      ≡ l.initial.out ++ map (token_at l.number l.start) (as_words (words l.initial.at (drop l.initial.at l.bytes)));
  within : l.at ≤ length l.bytes;
}

abbrev pub decreases-loop-from : goal.decreases-loop-from
decreases-loop-from l = length l.bytes - l.at
