use Rattle.tm_table.specs.State.{hart_of}
use Rattle.tm_table.specs.Row.{effect_by}
use Rattle.tm_world.specs.Run.{HasShape}
use Rattle.tm_changes.specs.Made.{change_told}
use Rattle.tm_guest.specs.Making.{IsMade}
use Rattle.tm_guest.proofs.Acts.{loads-in, possible-after}
use Rattle.tm_guest.proofs.Making.{made-changed}
use Rattle.tm_guest.proofs.act.make.Goals as goal

pub read_for-requires : goal.read_for-requires
read_for-requires c =
    let effect = effect_by c.action_at-action.result in
    let hart = hart_of c.args.cpu.now in
    let action = c.action_at-action.ensures in
    loads-in c.args.ram.now effect hart _ _ c.requires.region action.width
    (possible-after hart c.args.instr effect action.effect c.requires.possible)

both : (c : goal.After-finish) → IsMade (change_told c.args.change) (hart_of c.args.cpu.now) c.args.instr c.args.ram.now
    c.finish.result (hart_of c.finish.new.cpu) × HasShape c.finish.result
both c =
    let action = c.action_at-action.ensures in
    let applied = c.apply-clean.ensures in
    made-changed (change_told c.args.change) (hart_of c.args.cpu.now) (hart_of c.apply-clean.new.cpu)
    (hart_of c.finish.new.cpu) c.args.instr c.args.ram.now (effect_by c.action_at-action.result)
    c.read_for.result _ c.apply-clean.result c.finish.result action.effect action.width c.read_for.ensures
    c.requires.suits c.with_loaded-read.ensures applied.state applied.access c.finish.ensures.access
    c.finish.ensures.state

pub returns-clause-made : goal.returns-clause-made
returns-clause-made c = (both c).0

pub returns-clause-shape : goal.returns-clause-shape
returns-clause-shape c = (both c).1
