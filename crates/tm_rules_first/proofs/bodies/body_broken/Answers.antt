use Rattle.std.proofs.Common.{◌≡◌, ◌∙◌, sym, ap, arith}
use Rattle.tm_rules_first.specs.Rules.{slot_count}
use Rattle.tm_rules_first.proofs.SoundLemmas.{body-sound}
use Rattle.tm_rules_first.proofs.StatementLemmas.{body-stops, body-goes}
use Rattle.tm_rules_first.proofs.bodies.body_broken.Goals as goal

pub returns-in-Some : goal.returns-in-Some
returns-in-Some c =
    let len : c.slot_count-len.result ≡ slot_count c.args.body.now.slots =
    c.slot_count-len.ensures ∙ ap slot_count c.as_slice-slots.ensures in
    sym (body-stops c.args.topo.now c.args.p.now.shape c.args.before.now c.args.body.now c.in-Some.fault
    (sym (rw len at c.in-Some.ensures)))

pub overflow_cast-len : goal.overflow_cast-len
overflow_cast-len c =
    omega (
      arith,
      (body-sound c.args.topo.now c.args.before.now c.args.body.now.whom c.slot_count-len.result
          (sym c.in_default.ensures)).3,
    )

pub slots_broken-requires-clause-few : goal.slots_broken-requires-clause-few
slots_broken-requires-clause-few c =
    (body-sound c.args.topo.now c.args.before.now c.args.body.now.whom c.slot_count-len.result
    (sym c.in_default.ensures)).3

pub returns : goal.returns
returns c =
    let len : c.slot_count-len.result ≡ slot_count c.args.body.now.slots =
    c.slot_count-len.ensures ∙ ap slot_count c.as_slice-slots.ensures in
    rw (len, c.as_slice-slots.ensures) at c.slots_broken.ensures
    ∙ sym (body-goes c.args.topo.now c.args.p.now.shape c.args.before.now c.args.body.now
    (sym (rw len at c.in_default.ensures)))
