use Rattle.std.proofs.Common.{rules, arith, ◌+◌, ◌*◌, ◌^◌, ◌<◌, length}
use Rattle.tm_trace.specs.Fields.{hex_from}
use Rattle.tm_trace.proofs.Hexes.{goes_on, room}
use Rattle.tm_trace.proofs.fields.hex_value.Goals as goal

pub overflow_mul-value : goal.overflow_mul-value
overflow_mul-value c =
    let low = room _ _ _ _ c.loop-left.invariant c.in-len1-up.len_at_least c.requires.few in
    let below : c.loop-left.value * 16 < 2 ^ 64 = omega (arith, low) in
    search rules

pub overflow_add-value : goal.overflow_add-value
overflow_add-value c =
    let low = room _ _ _ _ c.loop-left.invariant c.in-len1-up.len_at_least c.requires.few in
    let below : c.loop-left.value * 16 + c.nibble.result < 2 ^ 64 = omega (arith, low, c.nibble.ensures.low) in
    search rules

pub loop-left-preserved : goal.loop-left-preserved
loop-left-preserved c =
    goes_on (hex_from 0 c.args.digits.now) (length c.args.digits.now) c.loop-left.value c.nibble.result
    c.loop-left.left.now c.loop-left.invariant c.in-len1-up.len_at_least c.nibble.ensures.value c.nibble.ensures.low
