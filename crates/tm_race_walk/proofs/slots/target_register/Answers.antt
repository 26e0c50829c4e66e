use Rattle.std.proofs.Common.{inl, inr}
use Rattle.tm_plane.proofs.WordLemmas.{bit-none}
use Rattle.tm_race_walk.proofs.Moving.{one-named}
use Rattle.tm_race_walk.proofs.slots.target_register.Goals as goal

pub returns : goal.returns
returns c = λ r. (
  (λ x. (one-named r c.args.i.rd).1 (elim ((c.with_register.ensures r).0 x)
      [ inl p ↦ p | inr z ↦ absurd (bit-none r z) ])),
  (λ x. (c.with_register.ensures r).1 (inl ((one-named r c.args.i.rd).0 x))),
)
