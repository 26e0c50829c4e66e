use Rattle.tm_guest.proofs.Stepping.{stands-in, change-shown}
use Rattle.tm_guest.proofs.guest.Guest.change.Goals as goal

pub at-requires-clause-from : goal.at-requires-clause-from
at-requires-clause-from c =
    (stands-in c.args.self.now _ _ _ c.args.h _ _ _ _ c.index-hart.result.now c.self.view_is c.self.invariant
    c.requires.below c.index-hart.ensures c.requires.off_halt).0

pub at-requires-clause-within : goal.at-requires-clause-within
at-requires-clause-within c =
    (stands-in c.args.self.now _ _ _ c.args.h _ _ _ _ c.index-hart.result.now c.self.view_is c.self.invariant
    c.requires.below c.index-hart.ensures c.requires.off_halt).1

pub returns : goal.returns
returns c =
    change-shown c.args.self.now _ _ _ c.args.h _ _ _ _ c.index-hart.result.now _ c.self.view_is c.self.invariant
    c.requires.below c.index-hart.ensures c.at.ensures
