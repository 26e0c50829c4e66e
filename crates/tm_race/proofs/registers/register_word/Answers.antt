use Rattle.std.proofs.Common.{arith}
use Rattle.tm_plane.proofs.WordLemmas.{bit-none}
use Rattle.tm_race.proofs.Free.{one-register}
use Rattle.tm_race.proofs.registers.register_word.Goals as goal

pub loop-r-init : goal.loop-r-init
loop-r-init c = λ j. ((λ b. absurd (bit-none j b)), (λ p. absurd (omega (arith, p.0, p.1))))

pub loop-r-preserved : goal.loop-r-preserved
loop-r-preserved c = one-register c.args.held c.loop-r.word _ c.loop-r.r (omega (arith, c.loop-r.auto))
    c.with_free-word.ensures c.loop-r.invariant

pub returns : goal.returns
returns c = λ j. (
  (λ b. let q = (c.loop-r.invariant j).0 b in (q.0, omega (arith, q.1, c.loop-r.auto), q.2)),
  (λ q. (c.loop-r.invariant j).1 (q.0, omega (arith, q.1, c.loop-r.auto, c.loop-r-test.false), q.2)),
)
