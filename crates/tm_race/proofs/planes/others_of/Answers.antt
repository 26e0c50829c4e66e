use Rattle.std.proofs.Common.{◌≡◌, ◌+◌, ℕ, ◌&&◌, ◌||◌, not, ◌==◌, Bool, length, [], ◌∷◌, ◌++◌, sym, ap, ◌∙◌, add-one}
use Rattle.std.proofs.Common.{arith}
use Rattle.std.specs.Prelude.{slice_get}
use Rattle.std.proofs.lemmas.Bool.{false_from_ne_true}
use Rattle.tm_base.specs.Lists.{any, count_from}
use Rattle.tm_plan_cases.proofs.Counted.{counted}
use Rattle.tm_world.specs.Writers.{some_store_to}
use Rattle.tm_plane.specs.declared.planes.TheConstants.{PLANE_WORDS}
use Rattle.tm_plane.specs.Plane.{in_plane}
use Rattle.tm_race_walk.proofs.Moving.{none-zero, any-snoc}
use Rattle.tm_race.proofs.planes.others_of.Goals as goal

next : (test : ℕ → Bool) (k : ℕ) (old new : Bool) → old ≡ any test (count_from 0 k) → new ≡ (old || test k)
    → new ≡ any test (count_from 0 (k + 1))
next test k old new o e =
    let more : count_from 0 (k + 1) ≡ count_from 0 k ++ k ∷ [] = rw add-one (counted 0 k k (omega arith)) in
    e ∙ (ap (λ (t : Bool). t || test k) o ∙ (sym (any-snoc test (count_from 0 k) k) ∙ ap (any test) (sym more)))

pub loop-g-init : goal.loop-g-init
loop-g-init c = λ b. false_from_ne_true _ (none-zero PLANE_WORDS b)

pub loop-g-preserved : goal.loop-g-preserved
loop-g-preserved c = λ b. next (λ g. not (g == c.args.h) && some_store_to b (slice_get c.args.case.now.streams g))
    c.loop-g.g (in_plane c.loop-g.out b) _ (c.loop-g.invariant b) (c.with_other-out.ensures b)

pub returns : goal.returns
returns c = λ b.
    let n : c.loop-g.g ≡ length c.args.case.now.streams =
    omega (arith, c.loop-g.auto, c.loop-g-test.false, ap length c.as_slice.ensures) in
    c.loop-g.invariant b ∙ ap (λ (k : ℕ). any (λ g. not (g == c.args.h)
    && some_store_to b (slice_get c.args.case.now.streams g)) (count_from 0 k)) n
