use Rattle.std.proofs.Common.{List, sym, subst}
use Rattle.tm_plan_cases.specs.declared.cases.Case.{Case}
use Rattle.tm_plan_owned.specs.Lines.{FewSlots}
use Rattle.tm_plan_owned.proofs.Places.{few-slots}
use Rattle.tm_plan_owned.proofs.steps.work.Goals as goal

pub work_in-requires-clause-slots : goal.work_in-requires-clause-slots
work_in-requires-clause-slots c = subst (λ (l : List Case). FewSlots c.args.h l) (sym c.as_slice.ensures)
    (few-slots c.args.cases.now c.args.h c.requires.shaped)
