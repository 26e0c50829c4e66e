use Rattle.tm_sample.specs.Texts.{sample_case}
use Rattle.tm_sample.proofs.Rows.{row-more}
use Rattle.tm_sample.proofs.texts.put_cases.Goals as goal

pub loop-c-preserved : goal.loop-c-preserved
loop-c-preserved c =
    row-more sample_case c.loop-c.c c.args.out.now c.loop-c.out c.put_case.new.out
    c.loop-c.invariant c.in_ok-put_case.ensures
