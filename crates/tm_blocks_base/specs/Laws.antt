-- What every run of a part's words does, over all values that reads may return (this project's own). Each law is of a
-- hart in any world, in any state at the part's first word: it comes, in so many steps, to the address behind the
-- last, never back to the first, and each step until then makes the accesses alone that are named; what holds then
-- says how the state differs from the one before, and which accesses were made.
use Rattle.std.specs.Prelude.{◌≡◌, ℕ, suc, ◌+◌, ◌*◌, ◌%◌, ◌^◌, ◌<◌, ◌≤◌, List, [], ◌∷◌, ◌++◌, map, false, IsTrue}
use Rattle.tm_table.specs.declared.state.Access.{Access}
use Rattle.tm_table.specs.declared.state.Access.TheVariants.{Quiet, Read, Write}
use Rattle.tm_base.specs.Lists.{count_from}
use Rattle.tm_runs.specs.Machine.{Table, Entry, State, World, put, get, loaded, moved}
use Rattle.tm_runs.specs.Runs.{Takes, At, Within, IsQuiet}
use Rattle.tm_blocks_base.specs.Instrs.{ld, sd}
use Rattle.tm_blocks_base.specs.Blocks.{constant, load_registers, load_registers_but_last, save_registers}

-- ---- accesses

-- an access before others, if it is one
abbrev pub with_access : Access → List Access → List Access
with_access Quiet rest = rest
with_access (Read a width v) rest = Read a width v ∷ rest
with_access (Write a width v) rest = Write a width v ∷ rest

-- the accesses of a log, the newest first
abbrev pub accesses : List Entry → List Access
accesses [] = []
accesses (e ∷ es) = with_access e.access (accesses es)

-- reads of these values, from dword j at a on, the newest first
abbrev pub reads : (a j : ℕ) → List ℕ → List Access
reads a j [] = []
reads a j (v ∷ vs) = reads a (suc j) vs ++ Read (a + 8 * j) 8 v ∷ []

-- writes of these values, from dword j at b on, the newest first
abbrev pub writes : (b j : ℕ) → List ℕ → List Access
writes b j [] = []
writes b j (v ∷ vs) = writes b (suc j) vs ++ Write (b + 8 * j) 8 v ∷ []

-- P holds of each access
abbrev pub EachAccess : (Access → Type 0) → List Access → Type 0
EachAccess P [] = Unit {0}
EachAccess P (x ∷ xs) = P x × EachAccess P xs

-- one of n dwords from base on
pub record Among (base n a : ℕ) : Type 0 where
  pub index : ℕ
  pub below : index < n
  pub is : a ≡ base + 8 * index

-- no address
abbrev pub Nowhere : ℕ → Type 0
Nowhere a = ⊥

-- no access, or a dword's, read at an address of R or written at one of W
abbrev pub Uses : (R W : ℕ → Type 0) → Access → Type 0
Uses R W Quiet = Unit {0}
Uses R W (Read a width v) = (width ≡ 8) × R a
Uses R W (Write a width v) = (width ≡ 8) × W a

-- ---- dwords

-- n dwords from a on may be accessed
pub record Usable (w : World) (a n : ℕ) : Type 0 where
  pub aligned : a % 8 ≡ 0
  pub low : a + 8 * n < 2 ^ 64
  pub guest : (j : ℕ) → j < n → IsTrue (w.guest (a + 8 * j))

-- n dwords from a on read back what the memory has
abbrev pub ReadsBack : World → (a n : ℕ) → Type 0
ReadsBack w a n = (j : ℕ) → j < n → IsTrue (w.own (a + 8 * j))

-- n dwords from a on can be changed by stores
abbrev pub Changeable : World → (a n : ℕ) → Type 0
Changeable w a n = (j : ℕ) → j < n → w.fixed (a + 8 * j) ≡ false

-- n dwords from a on
abbrev pub dwords : Table → (a n : ℕ) → List ℕ
dwords mem a n = map (λ j. mem (a + 8 * j)) (count_from 0 n)

-- memory after these values were stored, from dword j at b on
abbrev pub stored_all : Table → (b j : ℕ) → List ℕ → Table
stored_all mem b j [] = mem
stored_all mem b j (v ∷ vs) = stored_all (put mem (b + 8 * j) v) b (suc j) vs

-- each register has 64 bits
abbrev pub RegistersFit : State → Type 0
RegistersFit s = (r : ℕ) → get s.regs r < 2 ^ 64

-- ---- a constant

-- rd has the value, and all else is as it was
pub record HasConstant (rd value : ℕ) (s t : State) : Type 0 where
  pub pc : t.pc ≡ s.pc + 44
  pub regs : t.regs ≡ put s.regs rd value
  pub mem : t.mem ≡ s.mem
  pub accesses : accesses t.log ≡ accesses s.log
  pub fits : RegistersFit s → RegistersFit t

-- 11 steps, without an access
abbrev pub ConstantRuns : (rd value : ℕ) → Type 0
ConstantRuns rd value = (w : World) (s : State) → At w.text s.pc (constant rd value)
    → Takes w (Within s.pc (s.pc + 44) IsQuiet) (HasConstant rd value s) 11 s

-- ---- the registers' first values

-- x1 to x30 are the first 30 dwords of a table, and x31 is its address
pub record HasAllButLast (table : ℕ) (s t : State) : Type 0 where
  pub pc : t.pc ≡ s.pc + 164
  pub loaded : (i : ℕ) → i < 30 → get t.regs (i + 1) ≡ s.mem (table + 8 * i)
  pub base : get t.regs 31 ≡ table
  pub rest : (r : ℕ) → 32 ≤ r → get t.regs r ≡ get s.regs r
  pub mem : t.mem ≡ s.mem
  pub accesses : accesses t.log ≡ reads table 0 (dwords s.mem table 30) ++ accesses s.log
  pub fits : RegistersFit s → RegistersFit t

-- x1 to x31 are the 31 dwords of a table
pub record HasAll (table : ℕ) (s t : State) : Type 0 where
  pub pc : t.pc ≡ s.pc + 168
  pub loaded : (i : ℕ) → i < 31 → get t.regs (i + 1) ≡ s.mem (table + 8 * i)
  pub rest : (r : ℕ) → 32 ≤ r → get t.regs r ≡ get s.regs r
  pub mem : t.mem ≡ s.mem
  pub accesses : accesses t.log ≡ reads table 0 (dwords s.mem table 31) ++ accesses s.log
  pub fits : RegistersFit s → RegistersFit t

-- 41 steps, which read the first 30 dwords alone
abbrev pub LoadAllButLastRuns : (table : ℕ) → Type 0
LoadAllButLastRuns table = (w : World) (s : State) → Usable w table 31 → ReadsBack w table 31
    → At w.text s.pc (load_registers_but_last table)
    → Takes w (Within s.pc (s.pc + 164) (Uses (Among table 30) Nowhere)) (HasAllButLast table s) 41 s

-- the state after the last load, which reads dword 30 of the table
abbrev pub after_last_load : (table : ℕ) → State → State
after_last_load table s = loaded (ld 31 240 31) (table + 240) (s.mem (table + 240)) s

-- the last load was made
pub record HasLast (table : ℕ) (s t : State) : Type 0 where
  pub is : t ≡ after_last_load table s
  pub small : s.mem (table + 240) < 2 ^ 64

-- the last load by itself
abbrev pub LastLoadRuns : (table : ℕ) → Type 0
LastLoadRuns table = (w : World) (s : State) → Usable w table 31 → ReadsBack w table 31
    → At w.text s.pc (ld 31 240 31 ∷ []) → get s.regs 31 ≡ table
    → Takes w (HasLast table s) (HasLast table s) 1 s

-- 42 steps, which read the 31 dwords alone
abbrev pub LoadRegistersRuns : (table : ℕ) → Type 0
LoadRegistersRuns table = (w : World) (s : State) → Usable w table 31 → ReadsBack w table 31
    → At w.text s.pc (load_registers table)
    → Takes w (Within s.pc (s.pc + 168) (Uses (Among table 31) Nowhere)) (HasAll table s) 42 s

-- ---- saving registers

-- x1 to x30
abbrev pub first_registers : State → List ℕ
first_registers s = map (λ i. get s.regs (i + 1)) (count_from 0 30)

-- dwords 0 to 29 at b are x1 to x30, and all else is as it was
pub record HasSaved (b : ℕ) (s t : State) : Type 0 where
  pub pc : t.pc ≡ s.pc + 120
  pub regs : t.regs ≡ s.regs
  pub mem : t.mem ≡ stored_all s.mem b 0 (first_registers s)
  pub accesses : accesses t.log ≡ writes b 0 (first_registers s) ++ accesses s.log

-- 30 steps, which write 30 dwords alone
abbrev pub SaveRegistersRuns : Type 0
SaveRegistersRuns = (w : World) (s : State) (b : ℕ) → get s.regs 31 ≡ b → Usable w b 30 → Changeable w b 30
    → At w.text s.pc save_registers
    → Takes w (Within s.pc (s.pc + 120) (Uses Nowhere (Among b 30))) (HasSaved b s) 30 s

-- ---- the store of a number

-- the state after the store of x8 at an address
abbrev pub after_verdict : (cell : ℕ) → State → State
after_verdict cell s = moved (sd 8 0 7) s (Write cell 8 (get s.regs 8)) (s.pc + 4) s.regs
    (put s.mem cell (get s.regs 8))

-- the store of the verdict by itself
abbrev pub LastStoreRuns : (cell : ℕ) → Type 0
LastStoreRuns cell = (w : World) (s : State) → Usable w cell 1 → Changeable w cell 1
    → At w.text s.pc (sd 8 0 7 ∷ []) → get s.regs 7 ≡ cell
    → Takes w (λ t. t ≡ after_verdict cell s) (λ t. t ≡ after_verdict cell s) 1 s
