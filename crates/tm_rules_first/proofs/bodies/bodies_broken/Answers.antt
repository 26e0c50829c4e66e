use Rattle.std.proofs.Common.{◌∙◌, sym}
use Rattle.tm_rules_first.specs.Rules.{body_checks}
use Rattle.tm_rules_first.proofs.TurnLemmas.{rest-none, rest-more, rest-broken, rest-all}
use Rattle.tm_rules_first.proofs.bodies.bodies_broken.Goals as goal

pub loop-k-init : goal.loop-k-init
loop-k-init c = rest-none (body_checks c.args.topo.now c.args.p.now.shape) c.args.bodies.now

pub returns-in-Some : goal.returns-in-Some
returns-in-Some c =
    sym (c.loop-k.invariant ∙ rest-broken (body_checks c.args.topo.now c.args.p.now.shape) c.args.bodies.now c.loop-k.k
    _ _ c.loop-k-test.true c.index-bodies-k.is c.in-Some.broken
    (sym c.in-Some.ensures))

pub loop-k-preserved : goal.loop-k-preserved
loop-k-preserved c =
    c.loop-k.invariant ∙ rest-more (body_checks c.args.topo.now c.args.p.now.shape) c.args.bodies.now c.loop-k.k _ _
    c.loop-k-test.true c.index-bodies-k.is (sym c.in_default.ensures)

pub returns : goal.returns
returns c = sym (c.loop-k.invariant ∙ rest-all (body_checks c.args.topo.now c.args.p.now.shape) c.args.bodies.now
    c.loop-k.k c.loop-k-test.false)
