use Rattle.std.proofs.Common.{◌∙◌}
use Rattle.tm_place.specs.Placed.{sharing_of}
use Rattle.tm_place.proofs.SpotLemmas.{sound-of, first_is, nowhere-below, nowhere-unless, nowhere-above, nowhere-line}
use Rattle.tm_place.proofs.SpotLemmas.{stands-found}
use Rattle.tm_place.proofs.spot.spot_of.Goals as goal

pub returns-then-addr-first : goal.returns-then-addr-first
returns-then-addr-first c =
    let first = c.window_base-first.ensures ∙ first_is in
    nowhere-below (sharing_of c.args.p.now) c.args.addr (sound-of c.args.p.now) (rw first at c.if-addr-first.true)

pub returns-then-number : goal.returns-then-number
returns-then-number c =
    let first = c.window_base-first.ensures ∙ first_is in
    nowhere-above (sharing_of c.args.p.now) c.args.addr (sound-of c.args.p.now) (rw first at c.if-number.true)

pub returns-in-None : goal.returns-in-None
returns-in-None c = let first = c.window_base-first.ensures ∙ first_is in
    nowhere-unless c.args.p.now c.args.addr (rw first at c.in-None.is)

pub returns-then-line-from : goal.returns-then-line-from
returns-then-line-from c =
    let first = c.window_base-first.ensures ∙ first_is in
    let low = rw (first, c.from-size.ensures, c.from.ensures) at c.if-line-from.true in
    rw (first, c.from-size.ensures) (stands-found c.args.p.now c.args.addr c.in-Some.window
    (rw first at c.if-addr-first.false) (rw first at c.in-Some.is) low)

pub returns-else-line-from : goal.returns-else-line-from
returns-else-line-from c =
    let first = c.window_base-first.ensures ∙ first_is in
    let high = rw (first, c.from-size.ensures, c.from.ensures) at c.if-line-from.false in
    nowhere-line c.args.p.now c.args.addr c.in-Some.window (rw first at c.in-Some.is) high
