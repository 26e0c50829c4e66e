-- The parts of which support code is put together, as lists of instructions (this project's own). Each says which
-- registers it takes and which it changes.
use Rattle.std.specs.Prelude.{ℕ, ◌+◌, ◌-◌, ◌*◌, ◌/◌, ◌%◌, ◌^◌, List, [], ◌∷◌, ◌++◌, map, flat_map}
use Rattle.tm_table.specs.declared.instr.Instr.{Instr}
use Rattle.tm_base.specs.Lists.{count_from}
use Rattle.tm_blocks_base.specs.Instrs.{addi, slli, ld, sd}

-- the k-th 11 bits of a value go into rd from below
abbrev pub shift_in : (rd value k : ℕ) → List Instr
shift_in rd value k = slli rd rd 11 ∷ addi rd rd (value / 2 ^ (11 * k) % 2 ^ 11) ∷ []

-- rd = value, a number below 2 ^ 64: its highest 9 bits, and then 11 bits at a time
unfoldable pub constant : (rd value : ℕ) → List Instr
constant rd value = addi rd 0 (value / 2 ^ 55) ∷ flat_map (shift_in rd value) (4 ∷ 3 ∷ 2 ∷ 1 ∷ 0 ∷ [])

-- x1 to x31 are the 31 dwords at an address; x31, which holds the address, is the last
unfoldable pub load_registers : ℕ → List Instr
load_registers table = constant 31 table ++ map (λ r. ld r (8 * (r - 1)) 31) (count_from 1 31)

-- the same without its last instruction, which loads x31
unfoldable pub load_registers_but_last : ℕ → List Instr
load_registers_but_last table = constant 31 table ++ map (λ r. ld r (8 * (r - 1)) 31) (count_from 1 30)

-- x1 to x30 go to dwords 0 to 29 at x31
unfoldable pub save_registers : List Instr
save_registers = map (λ r. sd r (8 * (r - 1)) 31) (count_from 1 30)

-- dword a + j at x[from] goes to dword b + j at x[to], by x3
abbrev pub copy_dword : (from a to b j : ℕ) → List Instr
copy_dword from a to b j = ld 3 (8 * (a + j)) from ∷ sd 3 (8 * (b + j)) to ∷ []

-- n dwords, one after another
unfoldable pub copy_dwords : (from a to b n : ℕ) → List Instr
copy_dwords from a to b n = flat_map (copy_dword from a to b) (count_from 0 n)
