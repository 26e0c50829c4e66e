-- The last write of each byte by one hart (this project's own).
use Rattle.std.specs.Prelude.{◌≡◌, ℕ, ◌-◌, ◌==◌, ◌&&◌, nat_le, nat_lt, List, length, slice_index_or, Option, None, Some}
use Rattle.std.specs.Prelude.{if◌then◌else◌}
use Rattle.std.specs.BTreeMap.{BTreeMap, get}
use Rattle.std.specs.Ordering.{nat_cmp}
use Rattle.tm_plan_map.specs.declared.addresses.TheConstants.{WINDOWS_ADDRESS}
use Rattle.tm_owing.specs.declared.writes.Latest.{Latest}
use Rattle.tm_owing.specs.declared.writes.Writes.{Writes}

-- the place of a byte in an area of n bytes that begins at from, if it lies there
unfoldable pub place_of : (from n b : ℕ) → Option ℕ
place_of from n b = if nat_le from b && nat_lt (b - from) n then Some (b - from) else None

-- what a list has at a place, and what is said without one
abbrev pub at_place : List (Option Latest) → Option Latest → Option ℕ → Option Latest
at_place near far None = far
at_place near far (Some i) = slice_index_or near i None

-- the last write of a byte outside of the private area: by its place in the windows, and else as the map has it
unfoldable pub away_at : List (Option Latest) → BTreeMap ℕ Latest → ℕ → Option Latest
away_at shared far b = at_place shared (get nat_cmp far b) (place_of WINDOWS_ADDRESS (length shared) b)

-- the last write of a byte: by its place in the private area, and else outside of it
unfoldable pub last_at : Writes → ℕ → Option Latest
last_at w b = at_place w.near.items (away_at w.shared.items w.far b) (place_of w.from (length w.near.items) b)

-- a list that has no write
abbrev pub HasNothing : List (Option Latest) → Type 0
HasNothing near = (k : ℕ) → slice_index_or near k None ≡ None

-- a map with one entry more
abbrev pub IsPut : {X : Type 0} → ℕ → X → BTreeMap ℕ X → BTreeMap ℕ X → Type 0
IsPut k v old new = (r : ℕ) → get nat_cmp new r ≡ (if r == k then Some v else get nat_cmp old r)
