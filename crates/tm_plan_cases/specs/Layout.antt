-- Where the table of each case stands among the table bytes (this project's own).
use Rattle.std.specs.Prelude.{◌≡◌, ℕ, ◌+◌, ◌-◌, ◌*◌, take, drop, length, slice_get, Some}
use Rattle.tm_plan_cases.specs.declared.cases.Cases.{Cases}
use Rattle.tm_plan_cases.specs.declared.cases.Case.{Case}
use Rattle.tm_plan_cases.specs.declared.cases.Stream.{Stream}
use Rattle.tm_plan_cases.specs.declared.masks.Masks.{Masks}
use Rattle.tm_plan_cases.specs.declared.masks.CaseMask.{CaseMask}
use Rattle.tm_plan_map.specs.declared.addresses.TheConstants.{HART_TABLE_BYTES, WINDOWS_TABLE_BYTES}
use Rattle.tm_plan_map.specs.Map.{tables_base, table_at}
use Rattle.tm_plan_cases.specs.Shaped.{AreShaped, MasksFit}
use Rattle.tm_plan_cases.specs.Tables.{case_table, table_bytes}

-- the bytes of one case's table: 256 of each hart, 6144 first bytes of the windows, and 6144 mask bytes
abbrev pub table_size : ℕ → ℕ
table_size harts = HART_TABLE_BYTES * harts + WINDOWS_TABLE_BYTES

-- each stream has first values of 32 registers, as its type gives
abbrev pub HaveRegisters : Cases → Type 0
HaveRegisters cases = (c h : ℕ) (case : Case) (s : Stream) → slice_get cases.cases c ≡ Some case
    → slice_get case.streams h ≡ Some s
    → length s.regs ≡ 32

-- The table bytes are as long as one table for each case, and from the address of a case's table on they are its table.
pub record HasTables (cases : Cases) (masks : Masks) : Type 0 where
  pub whole : length (table_bytes cases masks) ≡ length cases.cases * table_size cases.harts
  pub each : (c : ℕ) (case : Case) (mask : CaseMask) → slice_get cases.cases c ≡ Some case
      → slice_get masks.cases c ≡ Some mask
      → take (table_size cases.harts) (drop (table_at cases.harts c - tables_base) (table_bytes cases masks))
      ≡ case_table case mask

-- It is so for shaped cases and masks that fit them.
abbrev pub TablesStand : Cases → Masks → Type 0
TablesStand cases masks = AreShaped cases → MasksFit cases masks → HaveRegisters cases → HasTables cases masks
