use Rattle.std.proofs.Common.{arith, refl}
use Rattle.tm_place.specs.Placed.{sharing_of}
use Rattle.tm_place.proofs.SpotLemmas.{sound-of}
use Rattle.tm_place.proofs.AccessLemmas.{begins-at, same-test, may_store-nowhere, may_store-true, may_store-own}
use Rattle.tm_place.proofs.AccessLemmas.{may_store-within, may_store-outside}
use Rattle.tm_place.proofs.AllowedLemmas.{store-answer, store-unaligned}
use Rattle.tm_place.proofs.accesses.may_store.Goals as goal

pub returns-in-None-clause-allowed : goal.returns-in-None-clause-allowed
returns-in-None-clause-allowed c = let none = may_store-nowhere (sharing_of c.args.p.now) c.args.h c.args.addr
    c.args.width c.requires.width c.in-None.ensures in
    (λ t. cc, λ m. absurd (none m))

pub nonzero_div-spot : goal.nonzero_div-spot
nonzero_div-spot c = omega (arith, (sound-of c.args.p.now).some)

pub nonzero_div-result : goal.nonzero_div-result
nonzero_div-result c = omega (arith, (sound-of c.args.p.now).some)

pub returns-in-True-clause-allowed : goal.returns-in-True-clause-allowed
returns-in-True-clause-allowed c = (
  λ t. may_store-true c.args.h c.args.addr c.args.width
      (begins-at c.args.p.now c.args.addr c.args.width c.from.result c.requires.width c.from.ensures
      c.if-addr-from-ne0.false c.in-Some.ensures) c.in-True.is,
  λ m. refl,
)

pub returns-then-spot-part-clause-allowed : goal.returns-then-spot-part-clause-allowed
returns-then-spot-part-clause-allowed c =
    let within = rw (c.from-part.ensures, c.from-in-False-2.ensures) at c.if-spot-part.true in
    rw (c.from-part.ensures, c.from-in-False.ensures, c.from-then-spot-part.ensures)
    (may_store-within c.args.h c.args.addr c.args.width
    (begins-at c.args.p.now c.args.addr c.args.width c.from.result c.requires.width c.from.ensures
    c.if-addr-from-ne0.false c.in-Some.ensures) c.in-False.is within)

pub returns-else-spot-part-clause-allowed : goal.returns-else-spot-part-clause-allowed
returns-else-spot-part-clause-allowed c =
    let outside = rw (c.from-part.ensures, c.from-in-False-2.ensures) at c.if-spot-part.false in
    let none = may_store-outside c.args.h c.args.addr c.args.width
    (begins-at c.args.p.now c.args.addr c.args.width c.from.result c.requires.width c.from.ensures
    c.if-addr-from-ne0.false c.in-Some.ensures) c.in-False.is outside in
    (λ t. absurd (c.if-spot-part.false (same-test _ _ t)), λ m. absurd (none m))

pub returns-in-Own-clause-allowed : goal.returns-in-Own-clause-allowed
returns-in-Own-clause-allowed c =
    may_store-own c.args.h c.args.addr c.args.width
    (begins-at c.args.p.now c.args.addr c.args.width c.from.result c.requires.width c.from.ensures
    c.if-addr-from-ne0.false c.in-Some.ensures) c.in-Own.is c.is_own_line.ensures

-- ---- the same, computed

pub returns-then-addr-from-ne0-clause-computed : goal.returns-then-addr-from-ne0-clause-computed
returns-then-addr-from-ne0-clause-computed c = store-unaligned c.args.p.now c.args.h c.args.addr c.args.width
    c.from.result c.from.ensures c.if-addr-from-ne0.true

pub returns-in-None-clause-computed : goal.returns-in-None-clause-computed
returns-in-None-clause-computed c = store-answer c.args.p.now c.args.h c.args.addr c.args.width _ c.requires.width
    (returns-in-None-clause-allowed c)

pub returns-in-True-clause-computed : goal.returns-in-True-clause-computed
returns-in-True-clause-computed c = store-answer c.args.p.now c.args.h c.args.addr c.args.width _ c.requires.width
    (returns-in-True-clause-allowed c)

pub returns-then-spot-part-clause-computed : goal.returns-then-spot-part-clause-computed
returns-then-spot-part-clause-computed c = store-answer c.args.p.now c.args.h c.args.addr c.args.width _
    c.requires.width (returns-then-spot-part-clause-allowed c)

pub returns-else-spot-part-clause-computed : goal.returns-else-spot-part-clause-computed
returns-else-spot-part-clause-computed c = store-answer c.args.p.now c.args.h c.args.addr c.args.width _
    c.requires.width (returns-else-spot-part-clause-allowed c)

pub returns-in-Own-clause-computed : goal.returns-in-Own-clause-computed
returns-in-Own-clause-computed c = store-answer c.args.p.now c.args.h c.args.addr c.args.width _ c.requires.width
    (returns-in-Own-clause-allowed c)
