use Rattle.tm_guest.proofs.Unique.{one-next-event}
use Rattle.tm_guest.proofs.laws.one_next_event.Goals as goal

pub returns : goal.returns
returns c = one-next-event c.args.program.now
