use Rattle.std.proofs.Common.{◌≡◌, ◌+◌, ◌*◌, ◌%◌, ◌≤◌, ◌++◌, drop}
use Rattle.tm_pass_text.specs.Words.{cases_words, streams_of}
use Rattle.tm_pass_text.specs.Hart.{blocks_of}
use Rattle.tm_pass.proofs.cases.append_cases.Given as goal

abbrev pub invariant-loop-c : goal.invariant-loop-c
invariant-loop-c l = record {
  aligned : l.at % 4 ≡ 0;
  least : l.first ≤ l.at;
  most : l.at ≤ l.first + 4096 * l.c;
  words : l.out ++ cases_words (blocks_of l.cases l.h) l.cases.passes l.c (drop l.c (streams_of l.cases l.h)) l.at
      l.barrier
      ≡ l.initial.out ++ cases_words (blocks_of l.cases l.h) l.cases.passes 0 (streams_of l.cases l.h) l.first
      l.barrier;
}
