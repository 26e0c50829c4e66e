use Rattle.tm_tmpl_read.specs.Steps.{body_at, bodies_at}
use Rattle.tm_tmpl_read.proofs.StepLemmas.{bodies-more}
use Rattle.tm_tmpl.proofs.PrintLemmas.{lines-none, printed-more}
use Rattle.tm_tmpl.proofs.print.put_bodies.Goals as goal

pub loop-body-init : goal.loop-body-init
loop-body-init c = lines-none c.args.out.now

pub loop-body-preserved : goal.loop-body-preserved
loop-body-preserved c =
    printed-more body_at bodies_at bodies-more c.args.bodies.now c.loop-body.body-index c.body-item.result
    c.body-item.result c.loop-body-test.true c.body-item.is
    c.args.out.now c.loop-body.out c.put_body.new.out c.loop-body.invariant c.in_ok-put_body.ensures
