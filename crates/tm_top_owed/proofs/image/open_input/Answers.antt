use Rattle.tm_top_owed.specs.Changes.{desk_change}
use Rattle.tm_top_owed.proofs.Images.{read_stop, file_stop, held_image}
use Rattle.tm_top_owed.proofs.image.open_input.Goals as goal

pub returns-in-Err-clause-cause : goal.returns-in-Err-clause-cause
returns-in-Err-clause-cause g c =
    read_stop c.in-Err.stop c.args.name.now
    (desk_change g.D.Desk.tells g.D.Desk.held g.D.Desk.faults c.args.desk.now c.read_input.new.desk)
    c.in-Err.ensures.cause

pub returns-in-Ok-opened_of-clause-ok : goal.returns-in-Ok-opened_of-clause-ok
returns-in-Ok-opened_of-clause-ok g c =
    held_image c.args.name.now
    (desk_change g.D.Desk.tells g.D.Desk.held g.D.Desk.faults c.args.desk.now c.read_input.new.desk)
    c.in-Ok.file c.in-Ok-opened_of.image.program c.in-Ok-opened_of.image.seed
    c.in-Ok.ensures.whole c.in-Ok.ensures.within c.in-Ok-opened_of.ensures.ok

pub returns-clause-cause : goal.returns-clause-cause
returns-clause-cause g c =
    file_stop c.in-Err-opened_of.stop c.args.name.now
    (desk_change g.D.Desk.tells g.D.Desk.held g.D.Desk.faults c.args.desk.now c.read_input.new.desk)
    c.in-Ok.file c.in-Ok.ensures.whole c.in-Ok.ensures.within c.in-Err-opened_of.ensures.err
