use Rattle.std.proofs.Common.{◌≡◌, ℕ, sym, ◌∙◌, length, arith}
use Rattle.tm_owing.specs.Writes.{away_at, last_at}
use Rattle.tm_owing.proofs.Placed.{found-near, found-away}
use Rattle.tm_owing.proofs.writes.Writes.last.Goals as goal

pub returns-in-Some : goal.returns-in-Some
unfolding last_at
returns-in-Some c =
    let w = c.args.self.now in
    let long : c.len.result ≡ length w.near.items = omega (arith, c.len.ensures, w.near.ok.0) in
    found-near w.from c.args.b w.near.items (away_at w.shared.items w.far c.args.b) c.len.result c.in-Some.place
    c.index.result.now long (sym c.place_of.ensures.is ∙ c.in-Some.is) c.in-Some.ensures.within c.index.ensures

pub returns-in-None : goal.returns-in-None
unfolding last_at
returns-in-None c =
    let w = c.args.self.now in
    let long : c.len.result ≡ length w.near.items = omega (arith, c.len.ensures, w.near.ok.0) in
    found-away w.from c.args.b w.near.items (away_at w.shared.items w.far c.args.b) c.len.result c.last_away.result
    long (sym c.place_of.ensures.is ∙ c.in-None.is) c.last_away.ensures
