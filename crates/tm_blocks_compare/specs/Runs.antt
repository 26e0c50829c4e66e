-- What every run of the words does that compare all passes (this project's own).
use Rattle.std.specs.Prelude.{◌≡◌, ℕ, ◌+◌, ◌-◌, ◌*◌, ◌^◌, ◌<◌, ◌≤◌, List, length, map, slice_index, IsTrue}
use Rattle.tm_plan_cases.specs.declared.cases.Cases.{Cases}
use Rattle.tm_plan_cases.specs.declared.program.Program.{Program}
use Rattle.tm_plan_map.specs.Map.{windows_base, save_at, verdict_at}
use Rattle.tm_plan_cases.specs.Shaped.{AreShaped}
use Rattle.tm_plan_cases.specs.Collected.{owned}
use Rattle.tm_runs.specs.Machine.{World, State, Table, get, MayAccess}
use Rattle.tm_runs.specs.Runs.{Takes, At, Within}
use Rattle.tm_runs.specs.World.{Sizes, world_of}
use Rattle.tm_blocks_base.specs.Laws.{Uses, Nowhere, RegistersFit}
use Rattle.tm_blocks_compare.specs.Words.{compare_all_but_last, case_masks, case_bytes}
use Rattle.tm_blocks_base.specs.Verdict.{Agrees, IsMaskDword}
use Rattle.tm_blocks_compare.specs.Numbers.{verdict_from, IsNumberOfAll}

-- where the masks of the dwords stand that hart h collects
abbrev pub mask_addresses : Cases → (h bytes : ℕ) → List ℕ
mask_addresses cases h bytes = map (λ a. bytes + (a - windows_base)) (owned cases h)

-- a dword that may be read, and reads back
pub record IsKept (w : World) (a : ℕ) : Type 0 where
  pub may : MayAccess w a
  pub low : a < 2 ^ 64
  pub own : IsTrue (w.own a)

-- What a comparison takes: the saved dwords of all passes, from `first` on and 8192 bytes apart; the registers' mask;
-- and the masks of the collected dwords.
pub record Comparing (w : World) (cases : Cases) (h first masks bytes : ℕ) : Type 0 where
  pub saved : (k j : ℕ) → k < cases.passes → j < 30 + length (owned cases h) → IsKept w (first + 8192 * k + 8 * j)
  pub mask : IsKept w masks
  pub each : (j : ℕ) → j < length (owned cases h) → IsKept w (slice_index (mask_addresses cases h bytes) j)
  pub near : first < 2 ^ 58
  pub far : bytes < 2 ^ 62

-- the verdict over all passes, by memory
abbrev pub verdict_of_all : Table → Cases → (h first masks bytes : ℕ) → ℕ
verdict_of_all mem cases h first masks bytes =
    verdict_from mem (mem masks) first 8192 (mask_addresses cases h bytes) 1 (cases.passes - 1)

-- x8 is the verdict, and x7 the cell's address; nothing was written
pub record HasVerdictOfAll (cases : Cases) (h first masks bytes cell : ℕ) (s t : State) : Type 0 where
  pub pc : t.pc ≡ s.pc + 4 * length (compare_all_but_last cases h first masks bytes cell)
  pub place : get t.regs 7 ≡ cell
  pub number : get t.regs 8 ≡ verdict_of_all s.mem cases h first masks bytes
  pub regs : (r : ℕ) → 11 ≤ r → get t.regs r ≡ get s.regs r
  pub mem : t.mem ≡ s.mem
  pub fits : RegistersFit s → RegistersFit t

-- Up to the store, by x1 to x10, with reads alone of what reads back, and at most 13 steps a dword and pass.
abbrev pub CompareAllRuns : Cases → (h first masks bytes cell : ℕ) → Type 0
CompareAllRuns cases h first masks bytes cell = (w : World) (s : State) → AreShaped cases → h < cases.harts
    → cell < 2 ^ 64 → Comparing w cases h first masks bytes
    → At w.text s.pc (compare_all_but_last cases h first masks bytes cell)
    → Takes w (Within s.pc (s.pc + 4 * length (compare_all_but_last cases h first masks bytes cell))
    (Uses (λ a. IsTrue (w.own a)) Nowhere)) (HasVerdictOfAll cases h first masks bytes cell s)
    (26 + cases.passes * (385 + 13 * length (owned cases h))) s

-- dword i of pass k is the same as in pass 0, where it is checked, by registers and bytes
abbrev pub SameIn : Table → Cases → (h first masks bytes k i : ℕ) → Type 0
SameIn mem cases h first masks bytes k i = Agrees (mem masks) (λ j. mem (slice_index (mask_addresses cases h bytes) j))
    (λ l. mem (first + 8 * l)) (λ l. mem (first + 8192 * k + 8 * l)) i

-- the verdict names the least pass, and in it the least dword, that differs
abbrev pub NamesLeastOfAll : Cases → (h first masks bytes : ℕ) → Type 0
NamesLeastOfAll cases h first masks bytes = (mem : Table) → 2 ≤ cases.passes → ((j : ℕ) → j < length (owned cases h)
    → IsMaskDword (mem (slice_index (mask_addresses cases h bytes) j)))
    → IsNumberOfAll (SameIn mem cases h first masks bytes) cases.passes (30 + length (owned cases h))
    (verdict_of_all mem cases h first masks bytes)

-- The world of a program's hart has what a comparison takes for case c, where the program's tables have a table for
-- each case.
abbrev pub ComparingIn : Program → (h c : ℕ) → Type 0
ComparingIn p h c = Sizes p → AreShaped p.cases → h < p.cases.harts → c < length p.cases.cases
    → length p.tables ≡ length p.cases.cases * (256 * p.cases.harts + 12288)
    → Comparing (world_of p h) p.cases h (save_at h 0) (case_masks p.cases h c) (case_bytes p.cases c)

-- the two laws of the words that compare the passes of case c for hart h
abbrev pub CaseRuns : Cases → (c h : ℕ) → Type 0
CaseRuns cases c h = CompareAllRuns cases h (save_at h 0) (case_masks cases h c) (case_bytes cases c) (verdict_at c h)

-- the number of the comparison of hart h's passes of case c names the least difference
abbrev pub CaseNamesLeast : Cases → (c h : ℕ) → Type 0
CaseNamesLeast cases c h = NamesLeastOfAll cases h (save_at h 0) (case_masks cases h c) (case_bytes cases c)
