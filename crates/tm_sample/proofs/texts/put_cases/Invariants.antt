use Rattle.std.specs.Prelude.{◌≡◌, ◌++◌, flat_map}
use Rattle.tm_base.specs.Lists.{count_from}
use Rattle.tm_sample.specs.Texts.{sample_case}
use Rattle.tm_sample.proofs.texts.put_cases.Given as goal

abbrev pub invariant-loop-c : goal.invariant-loop-c
invariant-loop-c l = l.out ≡ l.initial.out ++ flat_map sample_case (count_from 0 l.c)
