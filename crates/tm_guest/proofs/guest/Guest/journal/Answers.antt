use Rattle.tm_guest.proofs.Stepping.{plain-shown}
use Rattle.tm_guest.proofs.guest.Guest.journal.Goals as goal

pub returns-clause-plain : goal.returns-clause-plain
returns-clause-plain c = plain-shown c.args.self.now _ _ _ _ _ _ _ c.self.view_is c.self.invariant
