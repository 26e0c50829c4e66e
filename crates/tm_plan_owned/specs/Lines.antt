-- The lines that a hart collects (this project's own). A window's lines are counted from 0, and of the declared ones
-- each N-th is the hart's, from one of the first N on.
use Rattle.std.specs.Prelude.{◌≡◌, ℕ, zero, suc, ◌+◌, ◌-◌, ◌*◌, ◌/◌, ◌%◌, ◌<◌, ◌≤◌, ◌==◌, List, [], ◌∷◌, ◌++◌}
use Rattle.std.specs.Prelude.{flat_map, map, if◌then◌else◌, slice_get}
use Rattle.tm_plan_cases.specs.declared.cases.Cases.{Cases}
use Rattle.tm_plan_cases.specs.declared.cases.Case.{Case}
use Rattle.tm_plan_map.specs.declared.windows.Window.{Window}
use Rattle.tm_plan_map.specs.Map.{windows_base}
use Rattle.tm_plan_cases.specs.Shaped.{AreShaped}
use Rattle.tm_plan_cases.specs.Collected.{owned, slots_of}
use Rattle.tm_base.specs.Lists.{count_from}

-- ---- lines

-- how many lines window v declares
abbrev pub lines_of : ℕ → List Window → ℕ
lines_of v [] = 0
lines_of v (w ∷ ws) = if w.number == v then w.lines else lines_of v ws

-- the first line of window v that is hart h's, counted in the window
unfoldable pub first_line : Cases → (h v : ℕ) → ℕ
first_line cases h v = (h + cases.harts - 2048 * v / cases.line % cases.harts) % cases.harts

-- how many of the declared lines of window v are hart h's: from the first on every N-th
unfoldable pub line_count : Cases → (h v : ℕ) → ℕ
line_count cases h v = (lines_of v cases.windows + cases.harts - 1 - first_line cases h v) / cases.harts

-- how far the first of these lines is from the windows' first byte
unfoldable pub line_place : Cases → (h v : ℕ) → ℕ
line_place cases h v = 2048 * v + cases.line * first_line cases h v

-- the dwords of a line
abbrev pub line_dwords : (p n : ℕ) → List ℕ
line_dwords p n = map (λ i. p + 8 * i) (count_from 0 n)

-- those of k lines of n dwords, the next a bytes on
abbrev pub lines_dwords : (p n a k : ℕ) → List ℕ
lines_dwords p n a zero = []
lines_dwords p n a (suc k) = line_dwords p n ++ lines_dwords (p + a) n a k

-- those of hart h's lines of window v
abbrev pub own_dwords : Cases → (h v : ℕ) → List ℕ
own_dwords cases h v = lines_dwords (windows_base + line_place cases h v) (cases.line / 8) (cases.line * cases.harts)
    (line_count cases h v)

-- the numbers of the windows, in address order
abbrev pub three : List ℕ
three = 0 ∷ 1 ∷ 2 ∷ []

-- the declared dwords that a hart collects are those of its lines
abbrev pub LinesAreOwned : Cases → ℕ → Type 0
LinesAreOwned cases h = AreShaped cases → h < cases.harts → owned cases h ≡ flat_map (own_dwords cases h) three

-- ---- work

-- each case has at most 256 slots for hart h
abbrev pub FewSlots : ℕ → List Case → Type 0
FewSlots h [] = Unit {0}
FewSlots h (case ∷ more) = (slots_of (slice_get case.streams h) ≤ 256) × FewSlots h more
