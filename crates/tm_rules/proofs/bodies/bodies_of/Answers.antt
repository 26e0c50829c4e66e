use Rattle.std.proofs.Common.{◌∙◌, sym}
use Rattle.tm_rules.specs.Admitting.{hart_slots}
use Rattle.tm_plan_cases.proofs.Counted.{counted-more}
use Rattle.tm_rules.proofs.bodies.bodies_of.Goals as goal

pub loop-h-preserved : goal.loop-h-preserved
loop-h-preserved c =
    let more = counted-more (hart_slots c.args.topo.now c.args.bodies.now) c.loop-h.h in
    c.in_ok-push.ensures.ok ∙ rw (c.loop-h.invariant, c.in_ok-hart_slots.ensures) (sym more)
