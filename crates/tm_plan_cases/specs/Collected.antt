-- What each hart collects of shared memory, and how many steps a hart may work (this project's own).
use Rattle.std.specs.Prelude.{ℕ, ◌+◌, ◌-◌, ◌*◌, ◌/◌, ◌%◌, Bool, ◌&&◌, ◌==◌, List, [], ◌∷◌, length, filter, map}
use Rattle.std.specs.Prelude.{slice_get, Option, Some, None}
use Rattle.tm_plan_cases.specs.declared.cases.Cases.{Cases}
use Rattle.tm_plan_cases.specs.declared.cases.Case.{Case}
use Rattle.tm_plan_cases.specs.declared.cases.Stream.{Stream}
use Rattle.tm_plan_map.specs.declared.windows.Window.{Window}
use Rattle.tm_plan_map.specs.declared.addresses.TheConstants.{WINDOWS_DWORDS}
use Rattle.tm_plan_map.specs.Map.{windows_base, window_at, within}
use Rattle.tm_base.specs.Lists.{count_from, any}

-- b is a byte of a declared line of the window
abbrev pub declares : ℕ → ℕ → Window → Bool
declares line b w = within (window_at w.number) (w.lines * line) b

-- b is a byte of a declared line, a shared byte
unfoldable pub is_declared : Cases → ℕ → Bool
is_declared cases b = any (declares cases.line b) cases.windows

-- the hart that sets and saves a window's byte: the number of its line, counted over all windows, modulo the harts
unfoldable pub collector : Cases → ℕ → ℕ
collector cases b = (b - windows_base) / cases.line % cases.harts

-- the addresses of all dwords of the windows, in order
unfoldable pub window_dwords : List ℕ
window_dwords = map (λ q. windows_base + 8 * q) (count_from 0 WINDOWS_DWORDS)

-- the declared dwords that hart h collects, in address order
unfoldable pub owned : Cases → ℕ → List ℕ
owned cases h = filter (λ a. is_declared cases a && (collector cases a == h)) window_dwords

-- the slots of hart h's stream in a case
abbrev pub slots_of : Option Stream → ℕ
slots_of None = 0
slots_of (Some s) = length s.words

-- the steps that hart h may work in one pass of a case
abbrev pub pass_work : Cases → ℕ → Case → ℕ
pass_work cases h case = slots_of (slice_get case.streams h) + 256 + 32 * cases.harts + 32
    * (30 + length (owned cases h))

-- The case of each round case, in order. A round case is one run of a case in all its passes; so far each case has one.
abbrev pub round_cases : Cases → List Case
round_cases cases = cases.cases

-- the steps that hart h may work in these round cases
abbrev pub work_in : Cases → ℕ → List Case → ℕ
work_in cases h [] = 0
work_in cases h (case ∷ more) = (64 + cases.passes * pass_work cases h case) + work_in cases h more

-- the steps that hart h may work in a whole run
unfoldable pub work_of : Cases → ℕ → ℕ
work_of cases h = 64 + work_in cases h (round_cases cases)

-- the sum of f over a list
abbrev pub sum_of : (ℕ → ℕ) → List ℕ → ℕ
sum_of f [] = 0
sum_of f (x ∷ xs) = f x + sum_of f xs

-- the events that are enough for a whole run in which no hart reads idly
unfoldable pub budget_of : Cases → ℕ
budget_of cases =
    cases.harts * (sum_of (work_of cases) (count_from 0 cases.harts) + 16 * (length (round_cases cases) * cases.passes))
