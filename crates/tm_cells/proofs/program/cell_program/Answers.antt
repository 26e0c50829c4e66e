use Rattle.tm_cells.proofs.Kept.{kept}
use Rattle.tm_cells.proofs.program.cell_program.Goals as goal

pub invariant_of-result : goal.invariant_of-result
invariant_of-result c =
    let made = c.in_ok-made.ensures in
    record {
      of_plan = record {
        planned = c.requires.plan;
        words = made.text;
        exit_marks = made.exits;
        halt_marks = made.halts;
      };
      kept = ∣ kept c.args.plan.now _ _ _ c.requires.plan made.text made.exits made.halts ∣₁;
    }

pub returns-clause-kept : goal.returns-clause-kept
returns-clause-kept c =
    let made = c.in_ok-made.ensures in
    kept c.args.plan.now _ _ _ c.requires.plan made.text made.exits made.halts
