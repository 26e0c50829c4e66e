use Rattle.std.proofs.Common.{◌≡◌, ◌+◌, ◌-◌, get_or, arith}
use Rattle.tm_plan_map.specs.declared.addresses.TheConstants.{TABLES_ADDRESS}
use Rattle.tm_plan_map.specs.Map.{guest_base}
use Rattle.tm_guest.proofs.Starting.{tables-place, tables-more, region-more, stores-to}
use Rattle.tm_judge.proofs.start.put_tables.Goals as goal

pub store-requires : goal.store-requires
store-requires c =
    tables-place c.loop-i.ram c.loop-i.i _ c.loop-i.invariant.region c.loop-i-test.true c.requires.few

pub loop-i-preserved : goal.loop-i-preserved
unfolding guest_base
loop-i-preserved c =
    let e = c.store.ensures in
    let r = c.loop-i.ram in
    let t = c.store.new.self in
    let i = c.loop-i.i in
    let tables = c.args.tables.now in
    let known = c.loop-i.invariant in
    let at : TABLES_ADDRESS + i - r.base ≡ 8388608 + i = omega (arith, known.region.base) in
    let s =
    stores-to r t _ _ 1 _ (get_or tables i 0)
    (record { base = e.base; long = e.long; inside = e.inside; outside = e.outside }) at c.from.ensures in
    record {
      region = region-more r t _ _ _ s known.region;
      tables = tables-more tables i c.args.ram.now r t (omega (arith, c.type_inv.tables i)) s known.tables;
    }
