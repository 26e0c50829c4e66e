use Rattle.std.proofs.Common.{sym, subst}
use Rattle.tm_turn.specs.Steps.{WaitsFor, Mine}
use Rattle.tm_turn.proofs.line.turns.wait.Goals as goal

pub look_on-requires-clause-waits : goal.look_on-requires-clause-waits
look_on-requires-clause-waits g c =
    let k = g.T.Kept in
    let M = Mine k.maker k.history k.fixed in
    subst (λ (m : M). WaitsFor k.maker k.history k.fixed c.args.ticket m) (sym c.loop.invariant.2) c.requires.waits
