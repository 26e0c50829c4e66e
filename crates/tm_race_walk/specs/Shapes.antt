-- Cases of shaped cases, and who may write a byte in one (this project's own).
use Rattle.std.specs.Prelude.{◌≡◌, ℕ, Bool, ◌&&◌, not, ◌==◌, length, slice_get, Some}
use Rattle.tm_plan_cases.specs.declared.cases.Cases.{Cases}
use Rattle.tm_plan_cases.specs.declared.cases.Case.{Case}
use Rattle.tm_base.specs.Lists.{any, count_from}
use Rattle.tm_plan_cases.specs.Shaped.{AreShaped}
use Rattle.tm_world.specs.Writers.{some_store_to}

-- It is a case of some shaped cases.
pub record IsOfShaped (case : Case) : Type 0 where
  pub cases : Cases
  pub c : ℕ
  pub shaped : AreShaped cases
  pub at : slice_get cases.cases c ≡ Some case

-- another hart than h has a store slot that covers b
abbrev pub another_in : Case → (h b : ℕ) → Bool
another_in case h b =
    any (λ g. not (g == h) && some_store_to b (slice_get case.streams g)) (count_from 0 (length case.streams))

-- hart h alone has a store slot that covers b
abbrev pub own_in : Case → (h b : ℕ) → Bool
own_in case h b = some_store_to b (slice_get case.streams h) && not (another_in case h b)
