-- How a case shares its windows. This project's own.
use Rattle.std.specs.Prelude.{ℕ, ◌==◌, List, [], ◌∷◌, find, Option, Some, None}
use Rattle.tm_plan_map.specs.declared.windows.Window.{Window}
use Rattle.tm_place.specs.declared.drawing.TheConstants.{HOT_STREAM}
use Rattle.tm_place.specs.Numbers.{choice}
use Rattle.tm_place.specs.Draws.{draw}

-- the window with a number, where it is declared
abbrev pub numbered : List Window → ℕ → Option Window
numbered windows n = find (λ w. w.number == n) windows

-- the windows 0, 1 and 2
unfoldable pub shape_of : List Window → List (Option Window)
shape_of windows = numbered windows 0 ∷ numbered windows 1 ∷ numbered windows 2 ∷ []

-- the hot line of window w in case c, 0 where it isn't declared
abbrev pub hot_line : (seed c w : ℕ) → Option Window → ℕ
hot_line seed c w None = 0
hot_line seed c w (Some v) = choice (draw seed c HOT_STREAM w 0) v.lines

-- the hot lines of the windows 0, 1 and 2
unfoldable pub hot_lines : (seed c : ℕ) → List Window → List ℕ
hot_lines seed c windows =
    hot_line seed c 0 (numbered windows 0) ∷ hot_line seed c 1 (numbered windows 1)
    ∷ hot_line seed c 2 (numbered windows 2) ∷ []
