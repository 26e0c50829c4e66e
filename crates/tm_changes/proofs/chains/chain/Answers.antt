use Rattle.std.proofs.lemmas.Option.{slice_get-get_or}
use Rattle.std.proofs.Common.{arith}
use Rattle.tm_changes.proofs.Chained.{unplaced, placed}
use Rattle.tm_changes.proofs.chains.chain.Goals as goal

pub returns-in_default-clause-chained : goal.returns-in_default-clause-chained
returns-in_default-clause-chained c =
    unplaced c.args.program.now c.args.lines.now c.args.lasts.now c.args.befores.now c.args.i _
    (slice_get-get_or c.args.lines.now c.args.i _ c.requires.within) c.in_default.ensures

pub returns-clause-chained : goal.returns-clause-chained
returns-clause-chained c =
    let (few, at) = c.in-Some.ensures in
    placed c.args.program.now c.args.lines.now c.args.lasts.now c.args.befores.now c.args.i c.in-Some.place _
    (slice_get-get_or c.args.lines.now c.args.i _ c.requires.within)
    (omega (arith, c.requires.within, c.requires.room)) few at
