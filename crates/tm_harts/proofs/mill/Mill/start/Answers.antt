use Rattle.std.proofs.Common.{◌∙◌, sym, ap}
use Rattle.tm_world.specs.Place.{harts}
use Rattle.tm_guest.specs.Guested.{Guested}
use Rattle.tm_harts.specs.Mills.{mill_of}
use Rattle.tm_harts.proofs.Seats.{all_new}
use Rattle.tm_harts.proofs.mill.Mill.start.Goals as goal

pub returns-clause-all : goal.returns-clause-all
returns-clause-all c =
    let made = c.in_ok-line.ensures.seats in
    let program = ap (λ (g : Guested). harts g.program) (sym c.of-start.ensures) in
    all_new (mill_of c.in_ok-line.line c.of-start.result.value) c.in_ok-line.seats.items
    (made.0 ∙ (c.harts-harts.ensures.is ∙ program)) made.1
