use Rattle.std.proofs.Common.{subst, sym}
use Rattle.tm_table.specs.declared.state.Access.{Access}
use Rattle.tm_table.specs.State.{Hart}
use Rattle.tm_world.specs.Run.{read_value}
use Rattle.tm_world.specs.Kinds.{IsPossible}
use Rattle.tm_changes.specs.Made.{change_told}
use Rattle.tm_guest.proofs.Acts.{writes-in}
use Rattle.tm_guest.proofs.Making.{possible-by}
use Rattle.tm_guest.proofs.act.act.Goals as goal

pub write_for-requires : goal.write_for-requires
write_for-requires c =
    let made = c.make-access.ensures.made in
    let possible = subst (λ (r : Hart × Access). IsPossible r.1) made.made
    (c.requires.possible (read_value made.clean)) in
    writes-in c.args.ram.now c.make-access.result c.requires.region c.make-access.ensures.shape
    (subst IsPossible (sym made.access) (possible-by (change_told c.args.change) made.clean possible))
