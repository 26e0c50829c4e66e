use Rattle.std.proofs.Common.{◌≡◌, ◌≤◌, ◌+◌, ◌-◌, ◌*◌, length}
use Rattle.tm_trace.specs.declared.line.TheConstants.{LEAST_LINE}
use Rattle.tm_trace.specs.Reading.{events_from}
use Rattle.tm_trace.proofs.Going.{behind}
use Rattle.tm_trace.proofs.read.read_events.Given as goal

abbrev pub invariant-loop-place : goal.invariant-loop-place
invariant-loop-place l =
    (events_from l.count l.harts 2 l.bytes
    ≡ behind l.journal.events (events_from (l.count - l.place) l.harts (l.place + 2) l.rest))
    × (length l.journal.events ≡ l.place) × (l.journal.room ≡ l.fn.journal.room)
    × (length l.rest + l.place * LEAST_LINE ≤ length l.bytes)
