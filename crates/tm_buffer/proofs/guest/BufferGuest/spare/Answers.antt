use Rattle.std.proofs.Common.{sym, ◌∙◌}
use Rattle.tm_buffer.proofs.Draining.{spare-one}
use Rattle.tm_buffer.proofs.guest.BufferGuest.spare.Goals as goal

pub returns-then-waiting-room-clause-after : goal.returns-then-waiting-room-clause-after
returns-then-waiting-room-clause-after c =
    let (e, at, is) = c.drain_at.ensures.one in
    spare-one c.args.self.now c.drain_at.new.self c.args.h e c.args.access
    (sym c.is_write_access.ensures ∙ c.if-is_write_access.true) (sym c.waiting.ensures.count ∙ c.if-waiting-room.true) at is
