-- The guest's memory as a region, and what one step does in it (this project's own).
use Rattle.std.specs.Prelude.{◌≡◌, ℕ, ◌+◌, ◌-◌, ◌*◌, ◌^◌, ◌<◌, ◌≤◌, length, slice_index, unwrap_or, Option, Some}
use Rattle.tm_table.specs.declared.state.Access.{Access}
use Rattle.tm_table.specs.declared.state.Access.TheVariants.{Quiet, Read, Write}
use Rattle.tm_table.specs.Row.{Effect, Gives, Loads, Stores, Branches, Jumps}
use Rattle.tm_plan_map.specs.Map.{guest_base, guest_end}
use Rattle.tm_ram.specs.Region.{Region, IsPlace}
use Rattle.tm_world.specs.Place.{byte_of}
use Rattle.tm_world.specs.Run.{written}

-- the region is the guest's memory
pub record IsGuestRegion (r : Region) : Type 0 where
  pub base : r.base ≡ guest_base
  pub end : r.base + length r.bytes ≡ guest_end

-- the byte at an address
abbrev pub byte_at : Region → ℕ → ℕ
byte_at r b = slice_index r.bytes (b - r.base)

-- what an effect loads from lies in the region
abbrev pub LoadsIn : Region → Effect → Type 0
LoadsIn r (Loads addr width with_sign) = IsPlace r addr width
LoadsIn r (Gives value) = Unit {0}
LoadsIn r (Stores addr width value) = Unit {0}
LoadsIn r (Branches taken) = Unit {0}
LoadsIn r (Jumps link target) = Unit {0}

-- a number is what an effect loads
abbrev pub LoadsExactly : Region → Effect → ℕ → Type 0
LoadsExactly r (Loads addr width with_sign) value =
    (value < 2 ^ (8 * width)) × ((i : ℕ) → i < width → byte_of value i ≡ byte_at r (addr + i))
LoadsExactly r (Gives given) value = Unit {0}
LoadsExactly r (Stores addr width stored) value = Unit {0}
LoadsExactly r (Branches taken) value = Unit {0}
LoadsExactly r (Jumps link target) value = Unit {0}

-- what an access writes lies in the region
abbrev pub WritesIn : Region → Access → Type 0
WritesIn r Quiet = Unit {0}
WritesIn r (Read addr width value) = Unit {0}
WritesIn r (Write addr width value) = IsPlace r addr width

-- a region after an access: the written bytes, and the others as they were
pub record IsWritten (before : Region) (access : Access) (after : Region) : Type 0 where
  pub base : after.base ≡ before.base
  pub long : length after.bytes ≡ length before.bytes
  pub bytes : (b : ℕ) → before.base ≤ b → byte_at after b ≡ unwrap_or (written access b) (byte_at before b)

-- what a read is owed of the region
abbrev pub owed_of : Region → ℕ → Option ℕ
owed_of r b = Some (byte_at r b)
