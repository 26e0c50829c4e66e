use Rattle.std.proofs.Common.{◌≡◌, ◌+◌, ◌*◌, ◌-◌, get_or, arith}
use Rattle.tm_plan_map.specs.declared.addresses.TheConstants.{TEXT_ADDRESS}
use Rattle.tm_plan_map.specs.Map.{guest_base}
use Rattle.tm_guest.proofs.Starting.{text-place, text-more, region-more, stores-to}
use Rattle.tm_judge.proofs.start.put_text.Goals as goal

pub store-requires : goal.store-requires
store-requires c =
    text-place c.loop-i.ram c.loop-i.i _ c.loop-i.invariant.region c.loop-i-test.true c.requires.few

pub loop-i-preserved : goal.loop-i-preserved
unfolding guest_base
loop-i-preserved c =
    let e = c.store.ensures in
    let r = c.loop-i.ram in
    let t = c.store.new.self in
    let i = c.loop-i.i in
    let text = c.args.text.now in
    let known = c.loop-i.invariant in
    let at : TEXT_ADDRESS + 4 * i - r.base ≡ 4 * i = omega (arith, known.region.base) in
    let s =
    stores-to r t _ _ 4 _ (get_or text i 0)
    (record { base = e.base; long = e.long; inside = e.inside; outside = e.outside }) at c.from.ensures in
    record {
      region = region-more r t _ _ _ s known.region;
      text = text-more text i c.args.ram.now r t s known.text;
    }
