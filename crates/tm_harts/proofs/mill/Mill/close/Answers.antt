use Rattle.std.proofs.Common.{◌∙◌, sym, ap, subst}
use Rattle.tm_world.specs.Place.{harts}
use Rattle.tm_guest.specs.Guested.{Guested}
use Rattle.tm_turn.specs.Seats.{BearsOutAll}
use Rattle.tm_harts.specs.Mills.{Milled, maker_of}
use Rattle.tm_harts.proofs.Seats.{all_of_line}
use Rattle.tm_harts.proofs.mill.Mill.close.Goals as goal

pub close-requires : goal.close-requires
close-requires c =
    all_of_line c.args.self c.self.inside.line c.args.seats.items
    (ap (λ (m : Milled). m.line) (sym c.self.view_is))
    (c.self.invariant.1 ∙ ap (λ (m : Milled). harts m.program) c.self.view_is) c.requires

pub returns-clause-seats : goal.returns-clause-seats
returns-clause-seats c =
    subst (λ (g : Guested). BearsOutAll maker_of g.journal c.args.seats.items) (sym c.into_guest.ensures.same)
    c.close.ensures.seats
