use Rattle.std.proofs.Common.{◌∙◌, sym}
use Rattle.tm_rules_first.proofs.StatementLemmas.{case-stops, case-goes}
use Rattle.tm_rules_first.proofs.cases.case_broken.Goals as goal

pub returns-in-Some : goal.returns-in-Some
returns-in-Some c =
    sym (case-stops c.args.topo.now c.args.p.now.shape c.args.count c.args.before.now c.args.case.now c.in-Some.fault
    (sym (rw c.as_slice.ensures at c.in-Some.ensures)))

pub returns : goal.returns
returns c =
    rw c.as_slice-2.ensures at c.bodies_broken.ensures
    ∙ sym (case-goes c.args.topo.now c.args.p.now.shape c.args.count c.args.before.now c.args.case.now
    (sym (rw c.as_slice.ensures at c.in_default.ensures)))
