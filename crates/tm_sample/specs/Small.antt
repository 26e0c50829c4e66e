-- Cases with few harts, passes and lines, as those of samples (this project's own).
use Rattle.std.specs.Prelude.{◌≡◌, ◌+◌, ◌≤◌, length}
use Rattle.tm_base.specs.declared.limits.TheConstants.{DEFAULT_EVENTS}
use Rattle.tm_plan_cases.specs.declared.cases.Cases.{Cases}
use Rattle.tm_plan_cases.specs.Collected.{budget_of}
use Rattle.tm_plan_cases.specs.Shaped.{AreShaped}
use Rattle.tm_plan_owned.specs.Lines.{lines_of}

-- up to 4 harts and 4 passes, 8 cases, and windows of 12 lines together
pub record AreSmall (cases : Cases) : Type 0 where
  pub harts : cases.harts ≤ 4
  pub passes : cases.passes ≤ 4
  pub lines : lines_of 0 cases.windows + lines_of 1 cases.windows + lines_of 2 cases.windows ≡ 12
  pub count : length cases.cases ≡ 8

-- Such cases of the right shape have a budget within the events of a run that doesn't say how many.
abbrev pub SmallBudget : Cases → Type 0
SmallBudget cases = AreShaped cases → AreSmall cases → budget_of cases ≤ DEFAULT_EVENTS
