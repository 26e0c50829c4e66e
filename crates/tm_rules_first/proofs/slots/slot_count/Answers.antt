use Rattle.std.proofs.Common.{◌≡◌, ◌+◌, take, sym, arith}
use Rattle.tm_rules_first.specs.Rules.{slots_in, slot_count}
use Rattle.tm_rules_first.proofs.CountLemmas.{count-none, count-more}
use Rattle.tm_rules_first.proofs.slots.slot_count.Goals as goal

pub loop-slot-init : goal.loop-slot-init
loop-slot-init c = sym count-none

pub loop-slot-preserved : goal.loop-slot-preserved
loop-slot-preserved c =
    let more = count-more c.args.slots.now c.loop-slot.slot-index c.slot-item.result c.loop-slot-test.true
    c.slot-item.is in
    let one : c.from.result ≡ slots_in c.slot-item.result.what = cc in
    let sum : c.saturating_add-count.result ≡ slot_count (take (c.loop-slot.slot-index + 1) c.args.slots.now) =
    omega (arith, more, c.saturating_add-count.ensures, c.loop-slot.invariant) in
    sum
