use Rattle.std.proofs.Common.{◌≡◌, ℕ, arith, subst}
use Rattle.tm_race.specs.Masks.{EachIs, IsRegisterWord, IsSpoil}
use Rattle.tm_race.proofs.Growing.{none-yet, one-more}
use Rattle.tm_race.proofs.Calm.{none-spoiled}
use Rattle.tm_race.proofs.Tracked.{marks-checked}
use Rattle.tm_race.proofs.masks.case_mask.Goals as goal

pub loop-h-init : goal.loop-h-init
loop-h-init c = record {
  regs = none-yet (IsRegisterWord c.args.cases.now c.args.c) c.new-regs.result c.new-regs.ensures;
  spoil = none-spoiled c.args.cases.now c.args.c;
}

pub loop-h-preserved : goal.loop-h-preserved
loop-h-preserved c = record {
  regs = one-more (IsRegisterWord c.args.cases.now c.args.c) c.loop-h.h c.loop-h.regs c.push.new.self
      c.over_hart-word.result c.in_ok-push.ensures.ok c.loop-h.invariant.regs c.over_hart-word.ensures.word;
  spoil = c.over_hart-word.ensures.spoil;
}

pub returns : goal.returns
returns c =
    let end : c.loop-h.h ≡ c.args.cases.now.harts = omega (arith, c.loop-h.auto, c.loop-h-test.false) in
    record {
      regs = subst (λ (n : ℕ). EachIs (IsRegisterWord c.args.cases.now c.args.c) n c.loop-h.regs) end
          c.loop-h.invariant.regs;
      bytes = marks-checked c.args.cases.now c.args.c c.loop-h.spoil c.in_ok-bytes.bytes
          (subst (λ (n : ℕ). IsSpoil c.args.cases.now c.args.c n c.loop-h.spoil) end c.loop-h.invariant.spoil)
          c.in_ok-bytes.ensures;
    }
