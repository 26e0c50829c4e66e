use Rattle.std.proofs.Common.{◌∙◌, length, sym}
use Rattle.tm_rules_first.specs.Rules.{case_checks}
use Rattle.tm_rules_first.proofs.TurnLemmas.{rest-none, rest-more, rest-broken, rest-all}
use Rattle.tm_rules_first.proofs.cases.cases_broken.Goals as goal

pub loop-k-init : goal.loop-k-init
loop-k-init c = rest-none (case_checks c.args.topo.now c.args.p.now.shape (length c.args.cases.now)) c.args.cases.now

pub returns-in-Some : goal.returns-in-Some
returns-in-Some c =
    sym (c.loop-k.invariant ∙ rest-broken (case_checks c.args.topo.now c.args.p.now.shape (length c.args.cases.now))
    c.args.cases.now c.loop-k.k _ _ c.loop-k-test.true c.index-cases-k.is
    c.in-Some.broken (sym c.in-Some.ensures))

pub loop-k-preserved : goal.loop-k-preserved
loop-k-preserved c =
    c.loop-k.invariant ∙ rest-more (case_checks c.args.topo.now c.args.p.now.shape (length c.args.cases.now))
    c.args.cases.now c.loop-k.k _ _ c.loop-k-test.true c.index-cases-k.is
    (sym c.in_default.ensures)

pub returns : goal.returns
returns c = sym (c.loop-k.invariant ∙ rest-all (case_checks c.args.topo.now c.args.p.now.shape
    (length c.args.cases.now)) c.args.cases.now c.loop-k.k c.loop-k-test.false)
