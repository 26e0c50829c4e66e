-- Which cases, masks and programs the calls of the workspace take (this project's own).
use Rattle.std.specs.Prelude.{◌≡◌, ◌≢◌, ◌⊎◌, ℕ, ◌+◌, ◌-◌, ◌*◌, ◌%◌, ◌^◌, ◌<◌, ◌≤◌, length, All, AllPairs, Contains}
use Rattle.std.specs.Prelude.{IsTrue, IsFalse, slice_get, slice_index, Some}
use Rattle.tm_base.specs.Limits.{image_version, most_harts, most_cases}
use Rattle.tm_base.specs.declared.limits.TheConstants.{LEAST_PASSES, MOST_PASSES, MOST_SLOTS, WINDOWS}
use Rattle.tm_base.specs.declared.limits.TheConstants.{WINDOW_BYTES, SHORT_LINE, MIDDLE_LINE, LONG_LINE}
use Rattle.tm_base.specs.declared.limits.TheConstants.{TEXT_WORDS, TABLES_BYTES}
use Rattle.tm_table.specs.declared.instr.Instr.{Instr}
use Rattle.tm_table.specs.Words.{low}
use Rattle.tm_plan_cases.specs.declared.cases.Cases.{Cases}
use Rattle.tm_plan_cases.specs.declared.cases.Case.{Case}
use Rattle.tm_plan_cases.specs.declared.cases.Stream.{Stream}
use Rattle.tm_plan_map.specs.declared.windows.Window.{Window}
use Rattle.tm_plan_cases.specs.declared.masks.Masks.{Masks}
use Rattle.tm_plan_cases.specs.declared.masks.CaseMask.{CaseMask}
use Rattle.tm_plan_cases.specs.declared.program.Program.{Program}
use Rattle.tm_plan_map.specs.declared.addresses.TheConstants.{WINDOWS_BYTES, WINDOWS_DWORDS}
use Rattle.tm_plan_map.specs.Map.{window_at, private_at, within}
use Rattle.tm_plan_map.specs.Slots.{IsBase, instr_of, load_width, store_width, is_access, is_barred, is_jump}
use Rattle.tm_plan_map.specs.Slots.{slot_addr, slot_target}
use Rattle.tm_plan_cases.specs.Collected.{declares}

-- ---- one slot

-- The base register and the place of a load or store: aligned, in a declared line of the window of its base.
pub record IsPlaced (cases : Cases) (i : Instr) : Type 0 where
  pub base : IsBase i.rs1
  pub aligned : slot_addr i % (load_width i.op + store_width i.op) ≡ 0
  pub declared : (w : Window) × Contains cases.windows w × (w.number ≡ i.rs1 - 28)
      × ((b : ℕ) → IsTrue (within (slot_addr i) (load_width i.op + store_width i.op) b)
      → IsTrue (declares cases.line b w))

-- Slot n of a stream of len slots.
pub record IsShapedSlot (cases : Cases) (len n : ℕ) (i : Instr) : Type 0 where
  pub allowed : IsFalse (is_barred i.op)
  pub result : i.rd ≤ 27
  pub second : i.rs2 ≤ 27
  pub first : IsFalse (is_access i.op) → i.rs1 ≤ 27
  pub place : IsTrue (is_access i.op) → IsPlaced cases i
  -- a branch or JAL goes to a slot after it, or to the stream's end
  pub target : IsTrue (is_jump i.op) → (low 64 i.imm % 4 ≡ 0) × (n < slot_target n i) × (slot_target n i ≤ len)

-- ---- streams and cases

-- Hart h's stream.
pub record IsShapedStream (cases : Cases) (h : ℕ) (s : Stream) : Type 0 where
  pub some : 1 ≤ length s.words
  pub few : length s.words ≤ MOST_SLOTS
  pub slots : (n w : ℕ) → slice_get s.words n ≡ Some w
      → (i : Instr) × (instr_of w ≡ Some i) × IsShapedSlot cases (length s.words) n i
  pub zero : slice_index s.regs 0 ≡ 0
  pub bases : (w : ℕ) → w < WINDOWS → slice_index s.regs (28 + w) ≡ window_at w
  pub own : slice_index s.regs 31 ≡ private_at h

-- One stream for each hart, and a first value for each of the 768 dwords of the windows.
pub record IsShapedCase (cases : Cases) (case : Case) : Type 0 where
  pub streams : length case.streams ≡ cases.harts
  pub first : length case.first ≡ WINDOWS_DWORDS
  pub each : (h : ℕ) (s : Stream) → slice_get case.streams h ≡ Some s → IsShapedStream cases h s

-- A window of at least one line and at most 2048 bytes.
pub record IsShapedWindow (line : ℕ) (w : Window) : Type 0 where
  pub number : w.number < WINDOWS
  pub some : 1 ≤ w.lines
  pub few : w.lines * line ≤ WINDOW_BYTES

-- Shaped cases: all numbers lie within the limits.
pub record AreShaped (all : Cases) : Type 0 where
  pub harts : (1 ≤ all.harts) × (all.harts ≤ most_harts image_version)
  pub count : (1 ≤ length all.cases) × (length all.cases ≤ most_cases image_version)
  pub passes : (LEAST_PASSES ≤ all.passes) × (all.passes ≤ MOST_PASSES)
  pub line : (all.line ≡ SHORT_LINE) ⊎ ((all.line ≡ MIDDLE_LINE) ⊎ (all.line ≡ LONG_LINE))
  pub windows : All (IsShapedWindow all.line) all.windows
  pub apart : AllPairs (λ v w. v.number ≢ w.number) all.windows
  pub each : All (IsShapedCase all) all.cases

-- ---- masks

pub record IsShapedMask (cases : Cases) (mask : CaseMask) : Type 0 where
  pub regs : length mask.regs ≡ cases.harts
  pub bytes : length mask.bytes ≡ WINDOWS_BYTES
  pub ends : All (λ b. (b ≡ 0) ⊎ (b ≡ 255)) mask.bytes

-- Masks that are shaped for the cases.
pub record MasksFit (cases : Cases) (masks : Masks) : Type 0 where
  pub count : length masks.cases ≡ length cases.cases
  pub each : All (IsShapedMask cases) masks.cases

-- ---- programs

pub record IsProgram (p : Program) : Type 0 where
  pub cases : AreShaped p.cases
  pub masks : MasksFit p.cases p.masks
  pub starts : length p.marks.starts ≡ p.cases.harts * length p.cases.cases
  pub ends : length p.marks.ends ≡ p.cases.harts * length p.cases.cases
  pub exits : length p.marks.exits ≡ p.cases.harts
  pub halts : length p.marks.halts ≡ p.cases.harts
  pub text : (1 ≤ length p.text) × (length p.text ≤ TEXT_WORDS)
  pub tables : length p.tables ≤ TABLES_BYTES

-- What the types of a program's parts give beside: words of 32 bits, bytes, 32 registers and first dwords of 64 bits,
-- and masks of 32 bits.
pub record IsTyped (p : Program) : Type 0 where
  pub text : (k : ℕ) → slice_index p.text k < 2 ^ 32
  pub tables : (k : ℕ) → slice_index p.tables k < 256
  pub words : (c h : ℕ) (case : Case) (s : Stream) → slice_get p.cases.cases c ≡ Some case
      → slice_get case.streams h ≡ Some s
      → (n : ℕ) → slice_index s.words n < 2 ^ 32
  pub count : (c h : ℕ) (case : Case) (s : Stream) → slice_get p.cases.cases c ≡ Some case
      → slice_get case.streams h ≡ Some s
      → length s.regs ≡ 32
  pub regs : (c h : ℕ) (case : Case) (s : Stream) → slice_get p.cases.cases c ≡ Some case
      → slice_get case.streams h ≡ Some s
      → (r : ℕ) → slice_index s.regs r < 2 ^ 64
  pub first : (c : ℕ) (case : Case) → slice_get p.cases.cases c ≡ Some case → (k : ℕ)
      → slice_index case.first k < 2 ^ 64
  pub masks : (c : ℕ) (m : CaseMask) → slice_get p.masks.cases c ≡ Some m → (h : ℕ) → slice_index m.regs h < 2 ^ 32
