-- Masks as they come to be: one hart after another, then one byte after another (this project's own).
use Rattle.std.specs.Prelude.{◌≡◌, ◌⊎◌, ◌↔◌, ℕ, ◌+◌, ◌/◌, ◌%◌, ◌^◌, ◌<◌, ◌≤◌, ◌&&◌, not, List, length, slice_get}
use Rattle.std.specs.Prelude.{slice_index_or, Some, IsTrue, IsFalse, if◌then◌else◌}
use Rattle.tm_plan_cases.specs.declared.cases.Cases.{Cases}
use Rattle.tm_plan_cases.specs.declared.cases.Case.{Case}
use Rattle.tm_plan_cases.specs.declared.cases.Stream.{Stream}
use Rattle.tm_plan_cases.specs.declared.masks.CaseMask.{CaseMask}
use Rattle.tm_plan_cases.specs.Collected.{is_declared}
use Rattle.tm_plan_map.specs.declared.addresses.TheConstants.{WINDOWS_BYTES}
use Rattle.tm_plan_map.specs.Map.{windows_base}
use Rattle.tm_world.specs.Writers.{may_store, some_store_to}
use Rattle.tm_plan_cases.specs.Streams.{stream_in}
use Rattle.tm_world.specs.Slots.{slots_in, another_may_store}
use Rattle.tm_world.specs.Trails.{RaceDependent}
use Rattle.tm_world.specs.Checked.{IsCheckedRegister, IsCheckedByte}
use Rattle.tm_plane.specs.Plane.{in_plane}

-- They are n, and P holds of each and its place.
pub record EachIs {A : Type 0} (P : ℕ → A → Type 0) (n : ℕ) (xs : List A) : Type 0 where
  pub count : length xs ≡ n
  pub each : (k : ℕ) (d : A) → k < n → P k (slice_index_or xs k d)

-- The plane has exactly the bytes to which hart h of the case has a store slot.
pub record IsStores (case : Case) (h : ℕ) (plane : List ℕ) : Type 0 where
  pub exact : (b : ℕ) → in_plane plane b ≡ some_store_to b (slice_get case.streams h)

-- one such plane for each hart
abbrev pub AreStores : Case → List (List ℕ) → Type 0
AreStores case planes = EachIs (IsStores case) (length case.streams) planes

-- The word's bits say which registers of hart h are checked in case c.
pub record IsRegisterWord (cases : Cases) (c h word : ℕ) : Type 0 where
  pub exact : (stream : Stream) → stream_in cases c h ≡ Some stream → (r : ℕ)
      → (word / 2 ^ r % 2 ≡ 1) ↔ IsCheckedRegister cases c h r stream

-- The mark says whether byte q of the windows is checked in case c.
pub record IsByteMark (cases : Cases) (c q mark : ℕ) : Type 0 where
  pub exact : (mark ≡ 255) ↔ IsCheckedByte cases c (windows_base + q)
  pub ends : (mark ≡ 0) ⊎ (mark ≡ 255)

-- It is exactly what is checked in case c.
pub record IsMask (cases : Cases) (c : ℕ) (m : CaseMask) : Type 0 where
  pub regs : EachIs (IsRegisterWord cases c) cases.harts m.regs
  pub bytes : EachIs (IsByteMark cases c) WINDOWS_BYTES m.bytes

-- Hart h doesn't keep b from being checked in case c: if it may write b, no other hart may, and b isn't
-- race-dependent at the end of its stream.
abbrev pub IsCalm : Cases → (c b h : ℕ) → Type 0
IsCalm cases c b h = (stream : Stream) → stream_in cases c h ≡ Some stream → IsTrue (may_store cases c h b)
    → IsFalse (another_may_store cases c h b) × (RaceDependent (slots_in cases c h) b (length stream.words) → ⊥)

-- A byte of the windows is outside of the plane exactly where none of harts 0 to n - 1 keeps it from being checked.
pub record IsSpoil (cases : Cases) (c n : ℕ) (plane : List ℕ) : Type 0 where
  pub exact : (b : ℕ) → windows_base ≤ b
      → IsFalse (in_plane plane b) ↔ ((h : ℕ) → h < n → IsCalm cases c b h)

-- 255 for a byte of the windows that is declared and isn't spoiled, else 0
abbrev pub mark_of : Cases → (spoil : List ℕ) → ℕ → ℕ
mark_of cases spoil q =
    if is_declared cases (windows_base + q) && not (in_plane spoil (windows_base + q)) then 255 else 0
