-- Sets of numbers as bits of words, and sets of bytes of the windows as planes of bits (this project's own).
use Rattle.std.specs.Prelude.{ℕ, ◌+◌, ◌-◌, ◌/◌, ◌%◌, ◌<◌, ◌≤◌, ◌≡◌, ◌==◌, ◌⊎◌, ◌↔◌, Bool, ◌&&◌, nat_le, IsTrue, List}
use Rattle.std.specs.Prelude.{slice_index}
use Rattle.std.specs.Int.{bit_at}
use Rattle.tm_plan_map.specs.Map.{windows_base, windows_size, within}
use Rattle.tm_plane.specs.declared.planes.TheConstants.{PLANE_WORDS}

-- bit r of a word is set
abbrev pub Bit : ℕ → ℕ → Type 0
Bit word r = bit_at word r ≡ 1

-- Byte b of the windows is in a plane: with q its number, from 0 on, bit q mod 64 of element q / 64 is set.
unfoldable pub in_plane : List ℕ → ℕ → Bool
in_plane plane b =
    nat_le windows_base b && (bit_at (slice_index plane ((b - windows_base) / 64)) ((b - windows_base) % 64) == 1)

-- What is held after a write: what is written, where marks says that it then depends; and what was held, where it
-- isn't written or covered says that the write may be skipped.
abbrev pub Overwritten : (Written Held : Type 0) → (marks covered : Bool) → Type 0
Overwritten Written Held marks covered = (Written × IsTrue marks) ⊎ (Held × ((Written → ⊥) ⊎ IsTrue covered))

-- an access of 1, 2, 4 or 8 bytes, aligned and inside the windows
pub record IsNear (addr width : ℕ) : Type 0 where
  pub wide : (width ≡ 1) ⊎ ((width ≡ 2) ⊎ ((width ≡ 4) ⊎ (width ≡ 8)))
  pub aligned : addr % width ≡ 0
  pub low : windows_base ≤ addr
  pub high : addr + width ≤ windows_base + windows_size

-- The bytes of an access are all in element e of a plane, where they are these bits.
pub record Spans (addr width e bits : ℕ) : Type 0 where
  pub place : e < PLANE_WORDS
  pub few : (j : ℕ) → Bit bits j → j < 64
  pub bit : (b : ℕ) → windows_base ≤ b → (b - windows_base) / 64 ≡ e
      → Bit bits ((b - windows_base) % 64) ↔ IsTrue (within addr width b)
  pub element : (b : ℕ) → IsTrue (within addr width b) → (windows_base ≤ b) × ((b - windows_base) / 64 ≡ e)
