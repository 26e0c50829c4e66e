use Rattle.std.proofs.Common.{◌≡◌, rules}
use Rattle.tm_table.specs.Row.{effect_by, effect_at}
use Rattle.tm_table.proofs.Steps.{registers, has-width}
use Rattle.tm_table.specs.State.{hart_of}
use Rattle.tm_table.proofs.step.action_at.Goals as goal

pub bounds-cpu-i : goal.bounds-cpu-i
bounds-cpu-i c = (registers c.args.i c.requires).rs1

pub bounds-cpu-i-2 : goal.bounds-cpu-i-2
bounds-cpu-i-2 c = (registers c.args.i c.requires).rs2

pub returns-clause-width : goal.returns-clause-width
returns-clause-width c =
    let e : effect_by c.action_of.result ≡ effect_at (hart_of c.args.cpu.now) c.args.i = search rules in
    has-width (hart_of c.args.cpu.now) c.args.i _ e
