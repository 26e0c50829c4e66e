use Rattle.std.proofs.Common.{◌+◌, [], ◌∷◌, sym, subst, arith, length-append}
use Rattle.tm_guest.specs.Start.{IsOpened, AreOpened}
use Rattle.tm_guest.proofs.Starting.{one-more}
use Rattle.tm_guest.proofs.start.opened.Goals as goal

pub loop-h-preserved : goal.loop-h-preserved
loop-h-preserved c =
    let before = c.loop-h in
    let xs = before.states.items in
    let x = c.opened_at.result in
    subst (AreOpened (before.h + 1)) (sym c.in-Ok-push.ensures.items)
    (record {
      count = omega (arith, length-append xs (x ∷ []), before.invariant.count);
      each = one-more IsOpened xs x before.h before.invariant.count before.invariant.each c.opened_at.ensures;
    })
