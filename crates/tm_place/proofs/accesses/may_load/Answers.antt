use Rattle.std.proofs.Common.{◌≡◌, ◌≢◌, ◌∙◌, sym, refl, inl, inr, ◌⊎◌}
use Rattle.tm_plan_map.specs.declared.windows.Kind2.{Kind2}
use Rattle.tm_plan_map.specs.declared.windows.Kind2.TheVariants.{True, False, Own}
use Rattle.tm_place.specs.Placed.{sharing_of}
use Rattle.tm_place.proofs.AccessLemmas.{begins-at, may_load-nowhere, may_load-free, may_load-own}
use Rattle.tm_place.proofs.AllowedLemmas.{load-answer, load-unaligned}
use Rattle.tm_place.proofs.accesses.may_load.Goals as goal

pub returns-in-None-clause-allowed : goal.returns-in-None-clause-allowed
returns-in-None-clause-allowed c = let none = may_load-nowhere (sharing_of c.args.p.now) c.args.h c.args.addr
    c.args.width c.requires.width c.in-None.ensures in
    (λ t. cc, λ m. absurd (none m))

not-own : {k : Kind2} → (k ≡ True) ⊎ (k ≡ False) → k ≢ Own
not-own (inl h) e = let wrong : True ≡ Own = sym h ∙ e in cc
not-own (inr h) e = let wrong : False ≡ Own = sym h ∙ e in cc

pub returns-in-True-clause-allowed : goal.returns-in-True-clause-allowed
returns-in-True-clause-allowed c = (
  λ t. may_load-free c.args.h c.args.addr c.args.width
      (begins-at c.args.p.now c.args.addr c.args.width c.from.result c.requires.width c.from.ensures
      c.if-addr-from-ne0.false c.in-Some.ensures) (not-own c.in-True.is),
  λ m. refl,
)

pub returns-in-Own-clause-allowed : goal.returns-in-Own-clause-allowed
returns-in-Own-clause-allowed c =
    may_load-own c.args.h c.args.addr c.args.width
    (begins-at c.args.p.now c.args.addr c.args.width c.from.result c.requires.width c.from.ensures
    c.if-addr-from-ne0.false c.in-Some.ensures) c.in-Own.is c.is_own_line.ensures

-- ---- the same, computed

pub returns-then-addr-from-ne0-clause-computed : goal.returns-then-addr-from-ne0-clause-computed
returns-then-addr-from-ne0-clause-computed c = load-unaligned c.args.p.now c.args.h c.args.addr c.args.width
    c.from.result c.from.ensures c.if-addr-from-ne0.true

pub returns-in-None-clause-computed : goal.returns-in-None-clause-computed
returns-in-None-clause-computed c = load-answer c.args.p.now c.args.h c.args.addr c.args.width _ c.requires.width
    (returns-in-None-clause-allowed c)

pub returns-in-True-clause-computed : goal.returns-in-True-clause-computed
returns-in-True-clause-computed c = load-answer c.args.p.now c.args.h c.args.addr c.args.width _ c.requires.width
    (returns-in-True-clause-allowed c)

pub returns-in-Own-clause-computed : goal.returns-in-Own-clause-computed
returns-in-Own-clause-computed c = load-answer c.args.p.now c.args.h c.args.addr c.args.width _ c.requires.width
    (returns-in-Own-clause-allowed c)
