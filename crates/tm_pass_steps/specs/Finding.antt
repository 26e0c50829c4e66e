-- What a comparison of all passes finds, where the tables hold a case's masks (this project's own).
use Rattle.std.specs.Prelude.{◌≡◌, ℕ, ◌+◌, ◌-◌, ◌^◌, ◌<◌, length, slice_index}
use Rattle.tm_plan_cases.specs.declared.masks.CaseMask.{CaseMask}
use Rattle.tm_plan_cases.specs.declared.program.Program.{Program}
use Rattle.tm_plan_map.specs.Map.{save_at, windows_base}
use Rattle.tm_plan_cases.specs.Collected.{owned}
use Rattle.tm_plan_cases.specs.Shaped.{IsShapedMask}
use Rattle.tm_world.specs.Place.{byte_of}
use Rattle.tm_runs.specs.Machine.{Table}
use Rattle.tm_legal.specs.Tame.{Formed}
use Rattle.tm_blocks_compare.specs.Runs.{verdict_of_all}
use Rattle.tm_pass_way.specs.Parts.{IsFound}

-- Memory has the masks of a case at these addresses: hart h's registers' mask, and of each dword that it collects the
-- eight bytes' masks.
pub record HasMasks (p : Program) (m : CaseMask) (h : ℕ) (mem : Table) (masks bytes : ℕ) : Type 0 where
  pub registers : mem masks ≡ slice_index m.regs h
  pub fits : (j : ℕ) → j < length (owned p.cases h)
      → mem (bytes + (slice_index (owned p.cases h) j - windows_base)) < 2 ^ 64
  pub dwords : (j l : ℕ) → j < length (owned p.cases h) → l < 8
      → byte_of (mem (bytes + (slice_index (owned p.cases h) j - windows_base))) l
      ≡ slice_index m.bytes (slice_index (owned p.cases h) j + l - windows_base)

-- So what the comparison of the save areas gives is what is found in them.
abbrev pub ComparisonFinds : Program → Type 0
ComparisonFinds p = Formed p → (h : ℕ) (m : CaseMask) → IsShapedMask p.cases m → (mem : Table) (masks bytes : ℕ)
    → HasMasks p m h mem masks bytes → IsFound p m h mem (verdict_of_all mem p.cases h (save_at h 0) masks bytes)
