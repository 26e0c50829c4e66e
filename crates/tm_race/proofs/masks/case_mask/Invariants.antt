use Rattle.tm_race.specs.Masks.{EachIs, IsRegisterWord, IsSpoil}
use Rattle.tm_race.proofs.masks.case_mask.Given as goal

abbrev pub invariant-loop-h : goal.invariant-loop-h
invariant-loop-h l = record {
  regs : EachIs (IsRegisterWord l.cases l.fn.c) l.h l.regs;
  spoil : IsSpoil l.cases l.fn.c l.h l.spoil;
}
