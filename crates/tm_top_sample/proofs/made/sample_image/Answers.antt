use Rattle.std.proofs.Common.{◌∙◌}
use Rattle.tm_sample.specs.Texts.{sample_topology, sample_template}
use Rattle.tm_top_owed.proofs.Built.{built_of_texts}
use Rattle.tm_top_sample.proofs.Building.{never_refused}
use Rattle.tm_top_sample.proofs.Small.{room_of}
use Rattle.tm_top_sample.proofs.made.sample_image.Goals as goal

pub returns-in-Ok-clause-ok : goal.returns-in-Ok-clause-ok
returns-in-Ok-clause-ok c =
    let topo = c.as_slice.ensures ∙ c.in_ok-topo.ensures.topology in
    let template = c.as_slice-2.ensures ∙ c.in_ok-topo.ensures.template in
    built_of_texts (sample_topology c.args.n) (sample_template c.args.n) c.args.n c.in-Ok.image.program
    c.in-Ok.image.file (rw (topo, template) at c.in-Ok.ensures.program) (rw (topo, template) at c.in-Ok.ensures.ok)
    (rw (topo, template) at c.in-Ok.ensures.file) c.in-Ok.ensures.sound

pub returns-in-Ok-clause-room : goal.returns-in-Ok-clause-room
returns-in-Ok-clause-room c =
    room_of c.args.n c.in-Ok.image.program c.in-Ok.image.file (returns-in-Ok-clause-ok c) c.always_accepted.ensures
    c.always_small.ensures

pub unreachable-requires : goal.unreachable-requires
unreachable-requires c =
    let topo = c.as_slice.ensures ∙ c.in_ok-topo.ensures.topology in
    let template = c.as_slice-2.ensures ∙ c.in_ok-topo.ensures.template in
    let told = rw (c.in-Err-Input.field-0-is, topo, template) at c.in-Err-Input.ensures.err in
    never_refused (sample_topology c.args.n) (sample_template c.args.n) c.args.n c.in-Err-Input.field-0-0
    c.always_accepted.ensures told.1
