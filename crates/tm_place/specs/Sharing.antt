-- Who may store to and load from which byte of the windows (this project's own).
use Rattle.std.specs.Prelude.{ℕ, ◌+◌, ◌*◌, ◌%◌, ◌<◌, ◌≤◌, ◌≡◌, Option, Some}
use Rattle.tm_plan_map.specs.declared.windows.Window.{Window}
use Rattle.tm_plan_map.specs.declared.windows.Kind2.{Kind2}
use Rattle.tm_plan_map.specs.declared.windows.Kind2.TheVariants.{True, False, Own}
use Rattle.tm_plan_map.specs.Map.{window_at}

-- What decides it: the number of harts, the bytes of a line and those of a hart's part of one, and the window of each
-- number.
pub record Sharing : Type 0 where
  pub harts : ℕ
  pub line : ℕ
  pub part : ℕ
  pub window : ℕ → Option Window

-- b is byte r of declared line j of window v
pub record StandsAt (s : Sharing) (b : ℕ) (v : Window) (j r : ℕ) : Type 0 where
  pub declared : s.window v.number ≡ Some v
  pub line : j < v.lines
  pub byte : r < s.line
  pub place : b ≡ window_at v.number + (j * s.line + r)

-- hart h may store to byte r of line j of a window of a kind: to every byte; to its part of each line; to the lines
-- that are its own
abbrev pub StoresAt : Kind2 → Sharing → (h j r : ℕ) → Type 0
StoresAt True s h j r = Unit {0}
StoresAt False s h j r = (h * s.part ≤ r) × (r < (h + 1) * s.part)
StoresAt Own s h j r = j % s.harts ≡ h

-- hart h may load byte r of line j of a window of a kind: every byte, but of an own window only the lines that are
-- its own
abbrev pub LoadsAt : Kind2 → Sharing → (h j r : ℕ) → Type 0
LoadsAt True s h j r = Unit {0}
LoadsAt False s h j r = Unit {0}
LoadsAt Own s h j r = j % s.harts ≡ h

-- hart h may store to byte b
pub record MayStoreByte (s : Sharing) (h b : ℕ) : Type 0 where
  pub window : Window
  pub line : ℕ
  pub byte : ℕ
  pub stands : StandsAt s b window line byte
  pub may : StoresAt window.kind s h line byte

-- hart h may load byte b
pub record MayLoadByte (s : Sharing) (h b : ℕ) : Type 0 where
  pub window : Window
  pub line : ℕ
  pub byte : ℕ
  pub stands : StandsAt s b window line byte
  pub may : LoadsAt window.kind s h line byte

-- An access is allowed where it is aligned and all its bytes are: hart h may store width bytes at addr.
pub record MayStore (s : Sharing) (h addr width : ℕ) : Type 0 where
  pub aligned : addr % width ≡ 0
  pub bytes : (b : ℕ) → addr ≤ b → b < addr + width → MayStoreByte s h b

-- Hart h may load width bytes at addr.
pub record MayLoad (s : Sharing) (h addr width : ℕ) : Type 0 where
  pub aligned : addr % width ≡ 0
  pub bytes : (b : ℕ) → addr ≤ b → b < addr + width → MayLoadByte s h b
