use Rattle.tm_guest.proofs.Stepping.{phase-shown}
use Rattle.tm_guest.proofs.guest.Guest.phase.Goals as goal

pub returns-clause-room : goal.returns-clause-room
returns-clause-room c =
    phase-shown c.args.self.now _ _ _ c.args.h _ _ _ _ c.index.result.now c.self.view_is c.self.invariant
    c.requires c.index.ensures
