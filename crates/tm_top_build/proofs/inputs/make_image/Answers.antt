use Rattle.std.proofs.Common.{◌∙◌, ap, sym, Option, List, ℕ}
use Rattle.tm_top_owed.specs.Changes.{desk_change}
use Rattle.tm_top_build.proofs.Refusals.{template_stop, image_stop, image_of_held}
use Rattle.tm_top_build.proofs.inputs.make_image.Goals as goal

pub returns-in-Err-read_input-clause-cause : goal.returns-in-Err-read_input-clause-cause
returns-in-Err-read_input-clause-cause g c =
    template_stop c.in-Err-read_input.stop c.args.b.now
    (desk_change g.D.Desk.tells g.D.Desk.held g.D.Desk.faults c.args.desk.now c.read_input.new.desk)
    c.in-Ok.topo (g.D.Desk.held c.read_topology.new.desk c.args.b.now.template)
    (g.D.Desk.faults c.read_topology.new.desk)
    c.in-Ok.ensures.ok
    (λ told. ap (λ (files : List ℕ → Option (List ℕ)). files c.args.b.now.template)
    (c.in-Ok.ensures.unchanged told))
    c.in-Ok.ensures.later
    (rw c.as_str.ensures at c.in-Err-read_input.ensures.cause)

pub returns-clause-cause : goal.returns-clause-cause
returns-clause-cause g c =
    image_stop c.in-Err-image_of.stop c.args.b.now
    (desk_change g.D.Desk.tells g.D.Desk.held g.D.Desk.faults c.args.desk.now c.read_input.new.desk)
    c.in-Ok.topo c.in-Ok-read_input.template c.in-Ok.ensures.ok
    (λ told. sym (ap (λ (files : List ℕ → Option (List ℕ)). files c.args.b.now.template)
    (c.in-Ok.ensures.unchanged told)) ∙ (rw c.as_str.ensures at c.in-Ok-read_input.ensures.whole) told)
    c.in-Ok-read_input.ensures.within
    c.in-Err-image_of.ensures.err

pub returns-in-Ok-image_of-clause-ok : goal.returns-in-Ok-image_of-clause-ok
returns-in-Ok-image_of-clause-ok g c =
    image_of_held c.args.b.now
    (desk_change g.D.Desk.tells g.D.Desk.held g.D.Desk.faults c.args.desk.now c.read_input.new.desk)
    c.in-Ok.topo c.in-Ok-read_input.template c.in-Ok-image_of.made.file c.in-Ok-image_of.made.line c.in-Ok.ensures.ok
    (λ told. sym (ap (λ (files : List ℕ → Option (List ℕ)). files c.args.b.now.template)
    (c.in-Ok.ensures.unchanged told)) ∙ (rw c.as_str.ensures at c.in-Ok-read_input.ensures.whole) told)
    c.in-Ok-read_input.ensures.within
    c.in-Ok-image_of.ensures.ok
