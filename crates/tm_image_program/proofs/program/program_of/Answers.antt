use Rattle.std.proofs.Common.{sym, subst}
use Rattle.tm_plan_cases.specs.declared.cases.Cases.{Cases}
use Rattle.tm_world.specs.Checked.{AreChecked}
use Rattle.tm_world.specs.Sound.{Sound}
use Rattle.tm_race.specs.Exact.{masks_of}
use Rattle.tm_image_program.proofs.Whole.{program-is, for-sound}
use Rattle.tm_image_program.proofs.program.program_of.Goals as goal

pub returns-clause-program : goal.returns-clause-program
returns-clause-program c =
    program-is c.args.a.now c.args.seed c.in_ok-cases.cases c.in_ok-masks.masks c.in_ok-code.code.marks
    c.in_ok-code.code.text c.in_ok-tables.tables
    c.in_ok-cases.ensures.exact c.in_ok-masks.ensures.exact c.in_ok-tables.ensures c.in_ok-code.ensures.text
    c.in_ok-code.ensures.marks

pub returns-clause-sound : goal.returns-clause-sound
returns-clause-sound c =
    let drawn = c.in_ok-cases.ensures.exact in
    let masks = subst (AreChecked c.in_ok-cases.cases) c.in_ok-masks.ensures.exact c.in_ok-masks.ensures.checked in
    let checked = subst (λ (x : Cases). AreChecked x (masks_of x)) drawn masks in
    subst Sound (sym (returns-clause-program c)) (for-sound c.args.a.now c.args.seed c.requires checked)
