-- The limits of a placement's numbers (this project's own).
use Rattle.std.specs.Prelude.{ℕ, ◌<◌, ◌≤◌, ◌≡◌, List, Option, Some, None, slice_get, slice_index, IsTrue}
use Rattle.tm_base.specs.Limits.{image_version, most_harts, is_line_size}
use Rattle.tm_plan_map.specs.declared.windows.Window.{Window}
use Rattle.tm_plan_map.specs.declared.windows.Kind2.TheVariants.{Own}
use Rattle.tm_plan_cases.specs.Shaped.{IsShapedWindow}
use Rattle.tm_place.specs.Numbers.{part_size}

-- A window of a test: a shaped one, and an own window has a line for each hart.
pub record IsWindow (harts line : ℕ) (v : Window) : Type 0 where
  pub shaped : IsShapedWindow line v
  pub each : v.kind ≡ Own → harts ≤ v.lines

-- v is window w
pub record IsWindowAt (harts line w : ℕ) (v : Window) : Type 0 where
  pub number : v.number ≡ w
  pub window : IsWindow harts line v

-- A placement's numbers.
pub record IsPlacement (harts line part : ℕ) (shape : List (Option Window)) (hot : List ℕ) : Type 0 where
  pub count : (1 ≤ harts) × (harts ≤ most_harts image_version)
  pub size : IsTrue (is_line_size line)
  pub share : part ≡ part_size line harts
  -- window w stands at place w
  pub windows : (w : ℕ) (v : Window) → slice_get shape w ≡ Some (Some v) → IsWindowAt harts line w v
  -- a hot line is one of its window's, or 0 where there is no window
  pub hot_line : (w : ℕ) (v : Window) → slice_get shape w ≡ Some (Some v) → slice_index hot w < v.lines
  pub no_line : (w : ℕ) → slice_get shape w ≡ Some None → slice_index hot w ≡ 0
