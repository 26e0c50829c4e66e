use Rattle.std.proofs.Common.{◌∙◌, ◌++◌, sym, ap, List}
use Rattle.tm_plan_map.specs.declared.admitted.Slot.{Slot}
use Rattle.tm_rules.specs.Admitting.{slots_of}
use Rattle.tm_rules.proofs.WrittenLemmas.{written-none, written-more}
use Rattle.tm_rules.proofs.slots.written_out.Goals as goal

pub loop-statement-init : goal.loop-statement-init
loop-statement-init c = c.new-slots.ensures ∙ sym written-none

pub loop-statement-preserved : goal.loop-statement-preserved
loop-statement-preserved c =
    let more = written-more c.args.statements.now c.loop-statement.statement-index c.statement-item.result
    c.loop-statement-test.true c.statement-item.is in
    c.in_ok-put_slots.ensures ∙ ap (λ (slots : List Slot). slots ++ slots_of c.statement-item.result.what)
    c.loop-statement.invariant ∙ sym more
