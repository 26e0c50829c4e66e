use Rattle.tm_tmpl_read.specs.Steps.{case_at, cases_at}
use Rattle.tm_tmpl_read.proofs.StepLemmas.{cases-more}
use Rattle.tm_tmpl.proofs.PrintLemmas.{lines-none, printed-more}
use Rattle.tm_tmpl.proofs.print.put_cases.Goals as goal

pub loop-case-init : goal.loop-case-init
loop-case-init c = lines-none c.args.out.now

pub loop-case-preserved : goal.loop-case-preserved
loop-case-preserved c =
    printed-more case_at cases_at cases-more c.args.cases.now c.loop-case.case-index c.case-item.result
    c.case-item.result c.loop-case-test.true c.case-item.is
    c.args.out.now c.loop-case.out c.put_case.new.out c.loop-case.invariant c.in_ok-put_case.ensures
