use Rattle.std.proofs.Common.{◌∙◌, ℕ, ◌==◌, arith}
use Rattle.tm_world.specs.Place.{halt_of}
use Rattle.tm_guest.specs.Guested.{state}
use Rattle.tm_top_owed.proofs.Halting.{counts, skips, marks}
use Rattle.tm_top_owed.proofs.simulated.count_halted.Goals as goal
use Rattle.tm_top_owed.proofs.simulated.count_halted.Goals.{then-halted, else-halted}

pub loop-h-preserved : goal.loop-h-preserved
loop-h-preserved c =
    let (few, count) = c.loop-h.invariant in
    let g = c.args.guest.now in
    let h = c.loop-h.h in
    let test = λ (k : ℕ). (state g k).pc == halt_of g.program k in
    let same = marks (state g h).pc (halt_of g.program h) c.halted.result c.halted.ensures in
    elim c.if-halted.branch [
      | then-halted w ↦ (
        omega (arith, few, w.halted-is),
        w.halted-is ∙ counts test h c.loop-h.halted count (same ∙ w.if-halted.true),
      )
      | else-halted w ↦ (
        omega (arith, few, w.halted-is),
        w.halted-is ∙ skips test h c.loop-h.halted count (same ∙ w.if-halted.false),
      )
    ]
