use Rattle.std.proofs.Common.{◌∙◌, sym, arith, ◌∷◌, []}
use Rattle.tm_tmpl_read.specs.Grammar.{slots}
use Rattle.tm_tmpl_read.specs.Steps.{follows, slot_at, slots_at}
use Rattle.tm_tmpl_read.proofs.StepLemmas.{one-more, slots-more}
use Rattle.tm_tmpl_read.proofs.read.read_slots.Goals as goal
use Rattle.tm_base.proofs.ListLemmas.{was-ok}

pub loop-slots-preserved : goal.loop-slots-preserved
loop-slots-preserved c =
    let next = rw c.in-Some.is at c.in_ok-slot.ensures.next in
    let left = rw c.in-Some.is at c.in_ok-slot.ensures.left in
    let pushed = was-ok c.push.result _ (sym c.is_err.ensures.value ∙ c.if-is_err.false) c.push.ensures.ok in
    record {
      same = one-more (follows c.args.text.now c.args.tokens.now slots) (λ d. slot_at d ∷ []) slots_at slots-more
          c.loop-slots.slots c.push.new.self c.in-Some.slot _ _ c.loop-slots.invariant.same next pushed;
      spans = left.0;
      less = omega (arith, left.1, c.loop-slots.invariant.less);
    }
