use Rattle.std.proofs.Common.{◌≡◌, ◌≤◌, ◌-◌, drop, length}
use Rattle.tm_lex.specs.Lexing.{words, long_part, as_words}
use Rattle.tm_lex.proofs.faults.long_word.Given as goal

abbrev pub invariant-loop-from : goal.invariant-loop-from
invariant-loop-from l = record {
  same : long_part (as_words (words l.at (drop l.at l.bytes)))
      ≡ long_part (as_words (words l.initial.at (drop l.initial.at l.bytes)));
  within : l.at ≤ length l.bytes;
}

abbrev pub decreases-loop-from : goal.decreases-loop-from
decreases-loop-from l = length l.bytes - l.at
