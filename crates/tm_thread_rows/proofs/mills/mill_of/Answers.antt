use Rattle.std.proofs.Common.{[], sym, subst}
use Rattle.std.proofs.lemmas.List.Elements.{All-nil}
use Rattle.tm_plan_script.specs.Accepted.{AreAccepted}
use Rattle.tm_world.specs.Work.{NeverStuck}
use Rattle.tm_guest.proofs.Budgeted.{sound-budget}
use Rattle.tm_thread_rows.proofs.mills.mill_of.Goals as goal

pub start-requires-clause-accepted : goal.start-requires-clause-accepted
start-requires-clause-accepted c =
    subst (AreAccepted c.args.program.now.cases) (sym c.nothing.ensures) (sound-budget c.args.program.now).none

pub start-requires-clause-unstuck : goal.start-requires-clause-unstuck
start-requires-clause-unstuck c =
    let kept = c.scripts.ensures.sound c.requires [] (All-nil _) in
    subst (NeverStuck c.args.program.now) (sym c.nothing.ensures) kept.unstuck
