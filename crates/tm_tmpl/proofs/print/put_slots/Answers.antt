use Rattle.std.proofs.Common.{◌∷◌, []}
use Rattle.tm_tmpl_read.specs.Steps.{slot_at, slots_at}
use Rattle.tm_tmpl_read.proofs.StepLemmas.{slots-more}
use Rattle.tm_tmpl.proofs.PrintLemmas.{lines-none, lines-one, printed-more}
use Rattle.tm_tmpl.proofs.print.put_slots.Goals as goal

pub loop-slot-init : goal.loop-slot-init
loop-slot-init c = lines-none c.args.out.now

pub loop-slot-preserved : goal.loop-slot-preserved
loop-slot-preserved c =
    printed-more (λ d. slot_at d ∷ []) slots_at slots-more c.args.slots.now c.loop-slot.slot-index c.slot-item.result
    c.slot-item.result c.loop-slot-test.true c.slot-item.is
    c.args.out.now c.loop-slot.out c.put_slot.new.out c.loop-slot.invariant
    (lines-one (slot_at c.slot-item.result) c.loop-slot.out c.put_slot.new.out c.in_ok-put_slot.ensures)
