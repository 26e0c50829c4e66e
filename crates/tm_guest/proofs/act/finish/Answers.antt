use Rattle.std.proofs.Common.{Option, subst, sym}
use Rattle.tm_table.specs.State.{Hart, hart_of}
use Rattle.tm_memory.proofs.Nothing.{same-state}
use Rattle.tm_changes.specs.declared.change.Change as code
use Rattle.tm_changes.specs.Made.{change_told}
use Rattle.tm_guest.specs.Making.{IsStateBy}
use Rattle.tm_guest.proofs.act.finish.Goals as goal

pub returns-in-None-clause-state : goal.returns-in-None-clause-state
returns-in-None-clause-state c =
    let hart = hart_of c.args.cpu.now in
    let before : Hart = record { pc = c.args.from; x = hart.x } in
    subst (λ (o : Option code.Change). IsStateBy (change_told o) c.args.instr c.args.from hart hart) (sym c.in-None.is)
    (sym (same-state c.args.instr before hart))
