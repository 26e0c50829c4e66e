use Rattle.std.proofs.Common.{◌∙◌, sym, arith}
use Rattle.tm_tmpl_read.specs.Steps.{case_next, case_at, cases_at}
use Rattle.tm_tmpl_read.proofs.StepLemmas.{one-more, cases-more}
use Rattle.tm_tmpl_read.proofs.read.read_cases.Goals as goal
use Rattle.tm_base.proofs.ListLemmas.{was-ok}

pub loop-cases-preserved : goal.loop-cases-preserved
loop-cases-preserved c =
    let next = rw c.in-Some.is at c.in_ok-case.ensures.next in
    let left = rw c.in-Some.is at c.in_ok-case.ensures.left in
    let pushed = was-ok c.push.result _ (sym c.is_err.ensures.value ∙ c.if-is_err.false) c.push.ensures.ok in
    record {
      same = one-more (case_next c.args.text.now c.args.tokens.now) case_at cases_at cases-more c.loop-cases.cases
          c.push.new.self c.in-Some.case _ _ c.loop-cases.invariant.same next pushed;
      spans = left.0;
      less = omega (arith, left.1, c.loop-cases.invariant.less);
    }
