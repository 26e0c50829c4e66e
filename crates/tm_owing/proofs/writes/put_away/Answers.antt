use Rattle.std.proofs.Common.{◌≡◌, ◌==◌, ℕ, Some, sym, ◌∙◌, length, arith}
use Rattle.std.specs.BTreeMap.{get}
use Rattle.std.specs.Ordering.{nat_cmp}
use Rattle.tm_plan_map.specs.declared.addresses.TheConstants.{WINDOWS_ADDRESS}
use Rattle.tm_owing.specs.Writes.{away_at}
use Rattle.tm_owing.proofs.Placed.{put-near, put-away, placed, on-ok}
use Rattle.tm_owing.proofs.writes.put_away.Goals as goal

pub returns-in-Some : goal.returns-in-Some
unfolding away_at
returns-in-Some c =
    let near = c.args.shared.now in
    let long : c.len.result ≡ length near.items = omega (arith, c.len.ensures, near.ok.0) in
    put-near WINDOWS_ADDRESS c.args.b near.items (get nat_cmp c.args.far.now) c.args.write c.in-Some.place
    (placed WINDOWS_ADDRESS c.args.b near.items c.len.result (Some c.in-Some.place) long
    (sym c.place_of.ensures.is ∙ c.in-Some.is))

pub returns-in-None : goal.returns-in-None
unfolding away_at
returns-in-None c =
    let near = c.args.shared.now in
    let long : c.len.result ≡ length near.items = omega (arith, c.len.ensures, near.ok.0) in
    on-ok _ _ c.put_far.result
    (put-away WINDOWS_ADDRESS c.args.b near.items (get nat_cmp c.args.far.now) c.args.write
    (get nat_cmp c.put_far.new.far)
    (placed WINDOWS_ADDRESS c.args.b near.items c.len.result _ long (sym c.place_of.ensures.is ∙ c.in-None.is)))
    c.put_far.ensures
