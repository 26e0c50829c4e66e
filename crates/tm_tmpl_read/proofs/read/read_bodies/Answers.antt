use Rattle.std.proofs.Common.{◌∙◌, sym, arith}
use Rattle.tm_tmpl_read.specs.Steps.{body_next, body_at, bodies_at}
use Rattle.tm_tmpl_read.proofs.StepLemmas.{one-more, bodies-more}
use Rattle.tm_tmpl_read.proofs.read.read_bodies.Goals as goal
use Rattle.tm_base.proofs.ListLemmas.{was-ok}

pub loop-bodies-preserved : goal.loop-bodies-preserved
loop-bodies-preserved c =
    let next = rw c.in-Some.is at c.in_ok-body.ensures.next in
    let left = rw c.in-Some.is at c.in_ok-body.ensures.left in
    let pushed = was-ok c.push.result _ (sym c.is_err.ensures.value ∙ c.if-is_err.false) c.push.ensures.ok in
    record {
      same = one-more (body_next c.args.text.now c.args.tokens.now) body_at bodies_at bodies-more c.loop-bodies.bodies
          c.push.new.self c.in-Some.body _ _ c.loop-bodies.invariant.same next pushed;
      spans = left.0;
      less = omega (arith, left.1, c.loop-bodies.invariant.less);
    }
