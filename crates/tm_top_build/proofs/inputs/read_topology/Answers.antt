use Rattle.std.proofs.Common.{sym, ◌∙◌}
use Rattle.tm_top_owed.specs.Changes.{desk_change}
use Rattle.tm_top_build.proofs.Refusals.{topology_stop, topology_refused}
use Rattle.tm_top_build.proofs.inputs.read_topology.Goals as goal

pub returns-in-Err-clause-cause : goal.returns-in-Err-clause-cause
returns-in-Err-clause-cause g c =
    topology_stop c.in-Err.stop c.args.b.now
    (desk_change g.D.Desk.tells g.D.Desk.held g.D.Desk.faults c.args.desk.now c.read_input.new.desk)
    (rw c.as_str.ensures at c.in-Err.ensures.cause)

pub returns-in-Ok-Some-clause-cause : goal.returns-in-Ok-Some-clause-cause
returns-in-Ok-Some-clause-cause g c =
    topology_refused c.args.b.now (desk_change g.D.Desk.tells g.D.Desk.held g.D.Desk.faults c.args.desk.now
    c.read_input.new.desk)
    c.in-Ok.text c.in-Ok-Some.fault (rw c.as_str.ensures at c.in-Ok.ensures.whole) c.in-Ok.ensures.within
    (sym c.in-Ok-Some.field-0-is ∙ (rw c.as_slice.ensures at c.in-Ok-Some.ensures.fault))
    (c.in-Ok-Some.ensures.named c.in-Ok-Some.fault c.in-Ok-Some.field-0-is)
