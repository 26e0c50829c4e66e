use Rattle.std.proofs.Common.{◌≡◌, ℕ, Some, length, subst, sym, ◌∙◌, ap, arith}
use Rattle.tm_plan_cases.specs.declared.cases.Stream.{Stream}
use Rattle.tm_race_walk.specs.Taints.{StandsAt}
use Rattle.tm_race_walk.proofs.Shaping.{shaped-at}
use Rattle.tm_race_walk.proofs.ends.end_of.Goals as goal

pub slots_of-count-requires : goal.slots_of-count-requires
slots_of-count-requires c = let os = c.requires.case in
    (shaped-at os.cases os.c c.args.h c.args.case.now c.stream_of.result.now os.shaped os.at c.stream_of.ensures).few

same-length : (s t : Stream) → Some s ≡ Some t → length s.words ≡ length t.words
same-length s t e = let f : s ≡ t = cc in ap (λ (x : Stream). length x.words) f

pub forward-requires-clause-slot : goal.forward-requires-clause-slot
forward-requires-clause-slot c = λ s e. let n = same-length c.stream_of.result.now s (sym c.stream_of.ensures ∙ e) in
    omega (arith, c.slots_of-count.ensures, c.loop-i-test.true)

pub returns : goal.returns
returns c = λ s e.
    let n = same-length c.stream_of.result.now s (sym c.stream_of.ensures ∙ e) in
    let end : c.loop-i.i ≡ length s.words = omega (
      arith,
      c.slots_of-count.ensures,
      c.loop-i.auto,
      c.loop-i-test.false,
    ) in
    subst (λ (j : ℕ). StandsAt c.args.case.now c.args.h j c.loop-i.t) end c.loop-i.invariant
