-- The bytes of the tables (this project's own). Numbers stand with the lowest byte first.
use Rattle.std.specs.Prelude.{ℕ, List, [], ◌∷◌, ◌++◌, drop}
use Rattle.std.specs.List.{flat_map}
use Rattle.std.specs.Int.{to_le_bytes, w64}
use Rattle.tm_plan_cases.specs.declared.cases.Cases.{Cases}
use Rattle.tm_plan_cases.specs.declared.cases.Case.{Case}
use Rattle.tm_plan_cases.specs.declared.cases.Stream.{Stream}
use Rattle.tm_plan_cases.specs.declared.masks.Masks.{Masks}
use Rattle.tm_plan_cases.specs.declared.masks.CaseMask.{CaseMask}

-- the 8 bytes of a dword
unfoldable pub dword_bytes : ℕ → List ℕ
dword_bytes n = to_le_bytes w64 n

-- one dword after another
abbrev pub dwords_bytes : List ℕ → List ℕ
dwords_bytes numbers = flat_map dword_bytes numbers

-- one hart: the first values of x1 to x31, and a dword whose bit r is set where x r is checked
abbrev pub hart_table : Stream → ℕ → List ℕ
hart_table stream mask = dwords_bytes (drop 1 stream.regs) ++ dword_bytes mask

-- each hart with its mask
abbrev pub hart_tables : List Stream → List ℕ → List ℕ
hart_tables [] masks = []
hart_tables (stream ∷ streams) [] = []
hart_tables (stream ∷ streams) (mask ∷ masks) = hart_table stream mask ++ hart_tables streams masks

-- one case: its harts, the 6144 first bytes of the windows, and the 6144 mask bytes
abbrev pub case_table : Case → CaseMask → List ℕ
case_table case mask = hart_tables case.streams mask.regs ++ dwords_bytes case.first ++ mask.bytes

-- each case with its mask
abbrev pub case_tables : List Case → List CaseMask → List ℕ
case_tables [] masks = []
case_tables (case ∷ cases) [] = []
case_tables (case ∷ cases) (mask ∷ masks) = case_table case mask ++ case_tables cases masks

-- the tables of all cases, one after another
unfoldable pub table_bytes : Cases → Masks → List ℕ
table_bytes cases masks = case_tables cases.cases masks.cases
