-- The verdicts that the events of a simulation hold (this project's own).
use Rattle.std.specs.Prelude.{ℕ, ◌&&◌, ◌==◌, List, [], ◌∷◌, length, map, flat_map, Option, Some, None, unwrap_or}
use Rattle.std.specs.Prelude.{if◌then◌else◌}
use Rattle.tm_table.specs.declared.state.Access.{Access}
use Rattle.tm_table.specs.declared.state.Access.TheVariants.{Quiet, Read, Write}
use Rattle.tm_plan_map.specs.Map.{verdict_at}
use Rattle.tm_plan_cases.specs.declared.event.Event.{Event}
use Rattle.tm_plan_cases.specs.declared.cases.Cases.{Cases}
use Rattle.tm_base.specs.Lists.{count_from}
use Rattle.tm_world.specs.Lists.{or_else}

-- the value of a write of 8 bytes at a, if the access is one
abbrev pub put_at : ℕ → Access → Option ℕ
put_at a (Write addr width value) = if (addr == a) && (width == 8) then Some value else None
put_at a Quiet = None
put_at a (Read addr width value) = None

-- what the last element gives that gives something
abbrev pub latest : {A B : Type 0} → (A → Option B) → List A → Option B
latest f [] = None
latest f (x ∷ xs) = or_else (latest f xs) (f x)

-- The value of the last write of 8 bytes at the verdict cell of case c and hart h, another number where there is none.
abbrev pub verdict_from : ℕ → List Event → (c h : ℕ) → ℕ
verdict_from other events c h = unwrap_or (latest (λ (e : Event). put_at (verdict_at c h) e.access) events) other

-- The verdict on case c of hart h: that value, and 0 where there is none.
unfoldable pub verdict_in : List Event → (c h : ℕ) → ℕ
verdict_in events c h = verdict_from 0 events c h

-- the verdicts on case c, of each hart in order
abbrev pub verdicts_on : List Event → (harts c : ℕ) → List ℕ
verdicts_on events harts c = map (verdict_in events c) (count_from 0 harts)

-- all verdicts: for each case in order those of each hart
unfoldable pub verdicts_of : Cases → List Event → List ℕ
verdicts_of cases events = flat_map (verdicts_on events cases.harts) (count_from 0 (length cases.cases))
