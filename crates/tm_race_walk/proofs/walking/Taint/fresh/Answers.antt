use Rattle.std.proofs.Common.{inl, inr}
use Rattle.tm_world.specs.Slots.{slots_in}
use Rattle.tm_plane.proofs.WordLemmas.{bit-none}
use Rattle.tm_plane.specs.declared.planes.TheConstants.{PLANE_WORDS}
use Rattle.tm_race_walk.proofs.OneSlot.{stands_as, stands_zero}
use Rattle.tm_race_walk.proofs.Moving.{none-zero}
use Rattle.tm_race_walk.proofs.walking.Taint.fresh.Goals as goal

pub returns-clause-stands : goal.returns-clause-stands
returns-clause-stands c = λ case h. record {
  stands = λ cases k a at.
      stands_as (slots_in cases k h) 0 (λ r. ⊥) _ 0 0
      (λ r. ((λ s. elim s [ inl p ↦ bit-none r p.1 | inr t ↦ none-zero PLANE_WORDS r t ]), (λ b. absurd b)))
      (stands_zero (slots_in cases k h));
}
