use Rattle.std.proofs.Common.{◌≡◌, ℕ, sym, ◌∙◌, length, arith}
use Rattle.std.specs.BTreeMap.{get}
use Rattle.std.specs.Ordering.{nat_cmp}
use Rattle.tm_plan_map.specs.declared.addresses.TheConstants.{WINDOWS_ADDRESS}
use Rattle.tm_owing.specs.Writes.{away_at}
use Rattle.tm_owing.proofs.Placed.{found-near, found-away}
use Rattle.tm_owing.proofs.writes.last_away.Goals as goal

pub returns-in-Some : goal.returns-in-Some
unfolding away_at
returns-in-Some c =
    let near = c.args.shared.now in
    let long : c.len.result ≡ length near.items = omega (arith, c.len.ensures, near.ok.0) in
    found-near WINDOWS_ADDRESS c.args.b near.items (get nat_cmp c.args.far.now c.args.b) c.len.result c.in-Some.place
    c.index.result.now long (sym c.place_of.ensures.is ∙ c.in-Some.is) c.in-Some.ensures.within c.index.ensures

pub returns-in-None : goal.returns-in-None
unfolding away_at
returns-in-None c =
    let near = c.args.shared.now in
    let long : c.len.result ≡ length near.items = omega (arith, c.len.ensures, near.ok.0) in
    found-away WINDOWS_ADDRESS c.args.b near.items (get nat_cmp c.args.far.now c.args.b) c.len.result c.far_of.result
    long (sym c.place_of.ensures.is ∙ c.in-None.is) c.far_of.ensures
