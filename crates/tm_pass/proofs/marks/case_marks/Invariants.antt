use Rattle.std.proofs.Common.{◌≡◌, ◌+◌, ◌*◌, ◌≤◌, map}
use Rattle.tm_base.specs.Lists.{count_from}
use Rattle.tm_pass_place.specs.Built.{head_at, start_at, end_at}
use Rattle.tm_pass.proofs.marks.case_marks.Given as goal

abbrev pub invariant-loop-c : goal.invariant-loop-c
invariant-loop-c l = record {
  starts : l.marks.starts ≡ map (start_at l.cases l.h l.base) (count_from 0 l.c);
  ends : l.marks.ends ≡ map (end_at l.cases l.h l.base) (count_from 0 l.c);
  behind : l.marks.behind ≡ head_at l.cases l.h l.base l.c;
  most : l.marks.behind ≤ l.base + 56 + 4096 * l.c;
}
