use Rattle.std.proofs.Common.{inl, inr}
use Rattle.tm_plane.proofs.WordLemmas.{bit-none}
use Rattle.tm_race_walk.proofs.Moving.{one-named, two-named}
use Rattle.tm_race_walk.proofs.slots.sources.Goals as goal

pub returns : goal.returns
returns c = λ r. (
  (λ x. (two-named r c.args.i.rs1 c.args.i.rs2).1 (elim ((c.with_register-2.ensures r).0 x) [
    | inl p ↦ inl ((one-named r c.args.i.rs1).1 p)
    | inr y ↦ elim ((c.with_register.ensures r).0 y)
        [ inl p ↦ inr ((one-named r c.args.i.rs2).1 p) | inr z ↦ absurd (bit-none r z) ]
  ])),
  (λ x. (c.with_register-2.ensures r).1 (elim ((two-named r c.args.i.rs1 c.args.i.rs2).0 x) [
    | inl p ↦ inl ((one-named r c.args.i.rs1).0 p)
    | inr p ↦ inr ((c.with_register.ensures r).1 (inl ((one-named r c.args.i.rs2).0 p)))
  ])),
)
