use Rattle.std.proofs.Common.{◌-◌, ◌∙◌, arith}
use Rattle.tm_plan_owned.proofs.Places.{owned-parts, own-few, first-at, next-at, last-at}
use Rattle.tm_plan_owned.proofs.dwords.owned_addr.Goals as goal

pub returns-then-j-first : goal.returns-then-j-first
returns-then-j-first c =
    c.addr_in.ensures ∙ first-at c.args.cases.now c.args.h c.requires.shaped c.requires.mine c.args.j
    (omega (arith, c.owned_in-first.ensures.is, c.if-j-first.true))

pub returns-then-j-first-2 : goal.returns-then-j-first-2
returns-then-j-first-2 c =
    c.addr_in-then-j-first-2.ensures
    ∙ next-at c.args.cases.now c.args.h c.requires.shaped c.requires.mine (c.args.j - c.owned_in-first.result) c.args.j
    (omega (arith, c.owned_in-first.ensures.is, c.if-j-first.false))
    (omega (arith, c.owned_in-next.ensures.is, c.if-j-first.false, c.if-j-first-2.true))

pub addr_in-requires-2-clause-some : goal.addr_in-requires-2-clause-some
addr_in-requires-2-clause-some c =
    omega (
      arith,
      owned-parts c.args.cases.now c.args.h c.requires.shaped c.requires.mine,
      c.requires.some,
      c.owned_in-first.ensures.is,
      c.owned_in-next.ensures.is,
      c.if-j-first.false,
      c.if-j-first-2.false,
    )

pub addr_in-requires-2-clause-few : goal.addr_in-requires-2-clause-few
addr_in-requires-2-clause-few c =
    let whole = owned-parts c.args.cases.now c.args.h c.requires.shaped c.requires.mine in
    omega (
      arith,
      whole,
      c.requires.some,
      c.owned_in-first.ensures.is,
      c.owned_in-next.ensures.is,
      c.if-j-first.false,
      c.if-j-first-2.false,
      own-few c.args.cases.now c.args.h 2 c.requires.shaped (omega arith),
    )

pub returns : goal.returns
returns c =
    let whole = owned-parts c.args.cases.now c.args.h c.requires.shaped c.requires.mine in
    c.addr_in-2.ensures
    ∙ last-at c.args.cases.now c.args.h c.requires.shaped c.requires.mine
    (c.args.j - c.owned_in-first.result - c.owned_in-next.result) c.args.j
    (omega (arith, c.owned_in-first.ensures.is, c.owned_in-next.ensures.is, c.if-j-first.false, c.if-j-first-2.false))
    (omega (
      arith,
      whole,
      c.requires.some,
      c.owned_in-first.ensures.is,
      c.owned_in-next.ensures.is,
      c.if-j-first.false,
      c.if-j-first-2.false,
    ))
