use Rattle.std.proofs.Common.{length}
use Rattle.tm_trace.specs.Fields.{hex_from}
use Rattle.tm_trace.proofs.Hexes.{Left}
use Rattle.tm_trace.proofs.fields.hex_value.Given as goal

abbrev pub invariant-loop-left : goal.invariant-loop-left
invariant-loop-left l = Left (hex_from 0 l.digits) (length l.digits) l.value l.left

abbrev pub decreases-loop-left : goal.decreases-loop-left
decreases-loop-left l = length l.left
