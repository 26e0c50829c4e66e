use Rattle.std.proofs.Common.{◌≡◌, ℕ, length, arith, subst, ap}
use Rattle.tm_race.specs.Masks.{EachIs, IsMask}
use Rattle.tm_race.proofs.Growing.{one-more}
use Rattle.tm_race.proofs.Tracked.{are-checked, masks-fit}
use Rattle.tm_race.proofs.Exact.{masks-are}
use Rattle.tm_race.proofs.masks.track.Goals as goal

pub loop-c-preserved : goal.loop-c-preserved
loop-c-preserved c = one-more (IsMask c.args.cases.now) c.loop-c.c c.loop-c.masks c.push.new.self c.in_ok-mask.mask
    c.in_ok-push.ensures.ok c.loop-c.invariant c.in_ok-mask.ensures

pub returns-clause-checked : goal.returns-clause-checked
returns-clause-checked c =
    let end : c.loop-c.c ≡ length c.args.cases.now.cases =
    omega (arith, c.loop-c.auto, c.loop-c-test.false, ap length c.as_slice-c-end.ensures) in
    are-checked c.args.cases.now c.requires (record { cases = c.loop-c.masks })
    (subst (λ (n : ℕ). EachIs (IsMask c.args.cases.now) n c.loop-c.masks) end c.loop-c.invariant)

pub returns-clause-fit : goal.returns-clause-fit
returns-clause-fit c =
    let end : c.loop-c.c ≡ length c.args.cases.now.cases =
    omega (arith, c.loop-c.auto, c.loop-c-test.false, ap length c.as_slice-c-end.ensures) in
    masks-fit c.args.cases.now c.requires (record { cases = c.loop-c.masks })
    (subst (λ (n : ℕ). EachIs (IsMask c.args.cases.now) n c.loop-c.masks) end c.loop-c.invariant)

pub returns-clause-exact : goal.returns-clause-exact
returns-clause-exact c =
    let whole = ap length c.as_slice-c-end.ensures in
    let end : c.loop-c.c ≡ length c.args.cases.now.cases = omega (arith, c.loop-c.auto, c.loop-c-test.false, whole) in
    let all = subst (λ (n : ℕ). EachIs (IsMask c.args.cases.now) n c.loop-c.masks) end c.loop-c.invariant in
    masks-are c.args.cases.now (record { cases = c.loop-c.masks }) c.requires all
