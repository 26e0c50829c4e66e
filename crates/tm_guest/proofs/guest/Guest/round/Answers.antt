use Rattle.std.proofs.Common.{◌≡◌, ℕ, ◌<◌, inl, inr, subst, arith}
use Rattle.tm_world.specs.Place.{harts}
use Rattle.tm_guest.specs.declared.turn.Turn.TheVariants.{Full}
use Rattle.tm_guest.proofs.Rounding.{begins, either, whole}
use Rattle.tm_guest.proofs.guest.Guest.round.Goals as goal

pub loop-h-init : goal.loop-h-init
loop-h-init c = begins c.args.self.now

pub loop-h-preserved : goal.loop-h-preserved
loop-h-preserved c =
    let h = c.loop-h.h in
    let below : h < harts c.args.self.now.program =
    subst (λ (n : ℕ). h < n) c.harts-h-end.ensures.is c.loop-h-test.true in
    let not-full : c.advance.result ≡ Full → ⊥ =
    λ q. elim c.in-Stepped.is [ inl (place, event, s) ↦ cc | inr s ↦ cc ] in
    either c.args.self.now h c.loop-h.self c.advance.new.self c.advance.result c.loop-h.invariant below
    c.advance.ensures not-full

pub returns-clause-whole : goal.returns-clause-whole
returns-clause-whole c = λ _.
    let end : c.loop-h.h ≡ harts c.args.self.now.program =
    omega (arith, c.loop-h-test.false, c.loop-h.auto.h-end, c.harts-h-end.ensures.is) in
    (whole c.args.self.now c.loop-h.h c.loop-h.self c.loop-h.invariant end).0
