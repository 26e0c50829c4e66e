use Rattle.tm_top_owed.specs.Changes.{desk_change}
use Rattle.tm_top_owed.proofs.Images.{list_stop}
use Rattle.tm_top_list.proofs.Listings.{listing_of_held}
use Rattle.tm_top_list.proofs.list.read_listing.Goals as goal

pub returns-in-Err-clause-cause : goal.returns-in-Err-clause-cause
returns-in-Err-clause-cause g c =
    list_stop c.in-Err.stop c.args.image.now
    (desk_change g.D.Desk.tells g.D.Desk.held g.D.Desk.faults c.args.desk.now c.open_input.new.desk)
    c.in-Err.ensures.cause

pub returns-in-Ok-list_text-clause-ok : goal.returns-in-Ok-list_text-clause-ok
returns-in-Ok-list_text-clause-ok g c =
    listing_of_held c.args.image.now g.D.Desk.tells (g.D.Desk.held c.args.desk.now) c.in-Ok.image.program
    c.in-Ok.image.seed c.in-Ok-list_text.text c.in-Ok.ensures.ok c.in-Ok-list_text.ensures
