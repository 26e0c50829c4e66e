use Rattle.std.proofs.Common.{◌∙◌, sym}
use Rattle.tm_rules_first.specs.Rules.{window_checks}
use Rattle.tm_rules_first.proofs.TurnLemmas.{rest-none, rest-all}
use Rattle.tm_rules_first.proofs.StatementLemmas.{windows-more, windows-broken}
use Rattle.tm_rules_first.proofs.windows.windows_broken.Goals as goal

pub loop-k-init : goal.loop-k-init
loop-k-init c = rest-none (window_checks c.args.topo.now) c.args.windows.now

pub returns-in-Some : goal.returns-in-Some
returns-in-Some c =
    sym (c.loop-k.invariant ∙ windows-broken c.args.topo.now c.args.windows.now c.loop-k.k _ c.in-Some.fault
    c.loop-k-test.true c.in-Some.ensures)

pub loop-k-preserved : goal.loop-k-preserved
loop-k-preserved c = c.loop-k.invariant ∙ windows-more c.args.topo.now c.args.windows.now c.loop-k.k _
    c.loop-k-test.true c.in_default.ensures

pub returns : goal.returns
returns c = sym (c.loop-k.invariant ∙ rest-all (window_checks c.args.topo.now) c.args.windows.now c.loop-k.k
    c.loop-k-test.false)
