-- Tests that no rule refuses: all of their numbers, registers, accesses and targets are as streams need them. Source:
-- this project.
use Rattle.std.specs.Prelude.{ℕ, ◌+◌, ◌-◌, ◌*◌, ◌%◌, ◌==◌, ◌<◌, ◌≤◌, ◌≡◌, ◌≢◌, IsTrue, IsFalse, List, length, find}
use Rattle.std.specs.Prelude.{slice_get, Some, All, AllPairs}
use Rattle.tm_base.specs.Limits.{image_version, most_harts, most_cases, is_line_size}
use Rattle.tm_base.specs.declared.limits.TheConstants.{MOST_WEIGHTS, MOST_SLOTS, MOST_BIAS, LEAST_PASSES}
use Rattle.tm_base.specs.declared.limits.TheConstants.{MOST_PASSES}
use Rattle.tm_table.specs.declared.instr.Instr.{Instr}
use Rattle.tm_table.specs.Words.{low, Fits}
use Rattle.tm_plan_map.specs.Slots.{IsBase, is_access, is_barred, is_jump, load_width, store_width, slot_addr}
use Rattle.tm_plan_map.specs.Slots.{slot_target}
use Rattle.tm_plan_map.specs.declared.windows.Window.{Window}
use Rattle.tm_plan_map.specs.declared.admitted.Slot.{Slot}
use Rattle.tm_plan_map.specs.declared.admitted.Slot.TheVariants.{Emit, Mix}
use Rattle.tm_plan_map.specs.declared.admitted.AdmittedCase.{AdmittedCase}
use Rattle.tm_plan_map.specs.declared.admitted.Admitted.{Admitted}
use Rattle.tm_place.specs.Limits.{IsWindow}
use Rattle.tm_place.specs.Numbers.{part_size}
use Rattle.tm_place.specs.Sharing.{Sharing, StandsAt, MayStore, MayLoad}

-- The access of an instruction begins in a declared line of the window whose base its first register holds (this
-- project).
pub record IsBased (s : Sharing) (i : Instr) : Type 0 where
  pub window : Window
  pub line : ℕ
  pub byte : ℕ
  pub base : window.number ≡ i.rs1 - 28
  pub stands : StandsAt s (slot_addr i) window line byte

-- An instruction that hart h runs in slot n of len: it fits and may stand in a stream, its registers are x0 to x27
-- beside the base of an access, its access lies in the window of its base and is allowed to the hart, and it goes to
-- a slot behind it, or to the end (this project).
pub record IsRuledEmit (s : Sharing) (h len n : ℕ) (i : Instr) : Type 0 where
  pub fits : Fits i
  pub allowed : IsFalse (is_barred i.op)
  pub result : i.rd ≤ 27
  pub second : i.rs2 ≤ 27
  pub first : IsFalse (is_access i.op) → i.rs1 ≤ 27
  pub base : IsTrue (is_access i.op) → IsBase i.rs1
  pub place : IsTrue (is_access i.op) → IsBased s i
  pub loads : load_width i.op ≢ 0 → MayLoad s h (slot_addr i) (load_width i.op)
  pub stores : store_width i.op ≢ 0 → MayStore s h (slot_addr i) (store_width i.op)
  pub target : IsTrue (is_jump i.op) → (low 64 i.imm % 4 ≡ 0) × (n < slot_target n i) × (slot_target n i ≤ len)

-- Weights of which a class can be drawn: 1 to 1,000,000 in all, and a window for accesses where they have a weight
-- (this project).
pub record IsRuledMix (windows : List Window) (alu load store branch : ℕ) : Type 0 where
  pub some : 1 ≤ alu + load + store + branch
  pub few : alu + load + store + branch ≤ MOST_WEIGHTS
  pub places : load + store ≢ 0 → 1 ≤ length windows

-- slot n of len that hart h runs (this project)
abbrev pub IsRuledSlot : (s : Sharing) (windows : List Window) (h len n : ℕ) → Slot → Type 0
IsRuledSlot s windows h len n (Emit i) = IsRuledEmit s h len n i
IsRuledSlot s windows h len n (Mix alu load store branch) = IsRuledMix windows alu load store branch

-- The slots of hart h: 1 to 256 (this project).
pub record AreRuledSlots (s : Sharing) (windows : List Window) (h : ℕ) (slots : List Slot) : Type 0 where
  pub some : 1 ≤ length slots
  pub few : length slots ≤ MOST_SLOTS
  pub each : (n : ℕ) (slot : Slot) → slice_get slots n ≡ Some slot → IsRuledSlot s windows h (length slots) n slot

-- One slot list for each hart (this project).
pub record IsRuledCase (s : Sharing) (windows : List Window) (case : AdmittedCase) : Type 0 where
  pub harts : length case.bodies ≡ s.harts
  pub each : (h : ℕ) (slots : List Slot) → slice_get case.bodies h ≡ Some slots → AreRuledSlots s windows h slots

-- how a test shares its windows (this project)
abbrev pub sharing_in : Admitted → Sharing
sharing_in a = record {
  harts = a.harts;
  line = a.line;
  part = a.part;
  window = λ n. find (λ w. w.number == n) a.windows;
}

-- A test that no rule refuses (this project).
pub record IsRuled (a : Admitted) : Type 0 where
  pub harts : (1 ≤ a.harts) × (a.harts ≤ most_harts image_version)
  pub line : IsTrue (is_line_size a.line)
  pub part : a.part ≡ part_size a.line a.harts
  pub bias : a.bias ≤ MOST_BIAS
  pub passes : (LEAST_PASSES ≤ a.passes) × (a.passes ≤ MOST_PASSES)
  pub windows : All (IsWindow a.harts a.line) a.windows
  pub apart : AllPairs (λ v w. v.number ≢ w.number) a.windows
  pub count : (1 ≤ length a.cases) × (length a.cases ≤ most_cases image_version)
  pub each : All (IsRuledCase (sharing_in a) a.windows) a.cases
