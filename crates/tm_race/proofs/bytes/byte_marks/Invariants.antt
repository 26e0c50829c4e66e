use Rattle.std.proofs.Common.{◌≡◌}
use Rattle.tm_race.specs.Masks.{EachIs, mark_of}
use Rattle.tm_race.proofs.bytes.byte_marks.Given as goal

abbrev pub invariant-loop-q : goal.invariant-loop-q
invariant-loop-q l = EachIs (λ q mark. mark ≡ mark_of l.cases l.spoil q) l.q l.marks
