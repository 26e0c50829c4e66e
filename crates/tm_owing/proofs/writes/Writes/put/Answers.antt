use Rattle.std.proofs.Common.{◌≡◌, ◌==◌, ℕ, Some, sym, ◌∙◌, length, arith}
use Rattle.std.specs.Prelude.{if◌then◌else◌}
use Rattle.tm_owing.specs.Writes.{away_at, last_at}
use Rattle.tm_owing.proofs.Placed.{put-near, put-away, placed, on-ok}
use Rattle.tm_owing.proofs.writes.Writes.put.Goals as goal

pub returns-in-Some : goal.returns-in-Some
unfolding last_at
returns-in-Some c =
    let w = c.args.self.now in
    let long : c.len.result ≡ length w.near.items = omega (arith, c.len.ensures, w.near.ok.0) in
    put-near w.from c.args.b w.near.items (away_at w.shared.items w.far) c.args.write c.in-Some.place
    (placed w.from c.args.b w.near.items c.len.result (Some c.in-Some.place) long
    (sym c.place_of.ensures.is ∙ c.in-Some.is))

pub returns-in-None : goal.returns-in-None
unfolding last_at
returns-in-None c =
    let w = c.args.self.now in
    let long : c.len.result ≡ length w.near.items = omega (arith, c.len.ensures, w.near.ok.0) in
    on-ok _ _ c.put_away.result
    (put-away w.from c.args.b w.near.items (away_at w.shared.items w.far) c.args.write
    (away_at c.put_away.new.shared.items c.put_away.new.far)
    (placed w.from c.args.b w.near.items c.len.result _ long (sym c.place_of.ensures.is ∙ c.in-None.is)))
    c.put_away.ensures
