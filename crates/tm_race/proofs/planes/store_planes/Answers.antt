use Rattle.std.proofs.Common.{◌≡◌, ℕ, length, arith, subst, ap}
use Rattle.tm_race.specs.Masks.{EachIs, IsStores}
use Rattle.tm_race.proofs.Growing.{one-more}
use Rattle.tm_race.proofs.planes.store_planes.Goals as goal

pub loop-h-preserved : goal.loop-h-preserved
loop-h-preserved c = one-more (IsStores c.args.case.now) c.loop-h.h c.loop-h.planes c.push.new.self c.store_plane.result
    c.in_ok-push.ensures.ok c.loop-h.invariant (record { exact = c.store_plane.ensures })

pub returns : goal.returns
returns c =
    let end : c.loop-h.h ≡ length c.args.case.now.streams =
    omega (arith, c.loop-h.auto, c.loop-h-test.false, ap length c.as_slice.ensures) in
    subst (λ (n : ℕ). EachIs (IsStores c.args.case.now) n c.loop-h.planes) end c.loop-h.invariant
