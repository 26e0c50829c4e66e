-- What the gate at the first word of a hart's text does to any other hart (this project's own).
use Rattle.std.specs.Prelude.{◌≡◌, ◌≢◌, ◌⊎◌, ℕ, ◌+◌, ◌*◌, ◌<◌, List, length, slice_get, Some}
use Rattle.tm_plan_map.specs.Slots.{instr_of}
use Rattle.tm_runs.specs.Machine.{World, State, get}
use Rattle.tm_runs.specs.Runs.{Takes, Within, IsQuiet}
use Rattle.tm_pass.specs.declared.hart.HartCode.{HartCode}

-- An address that is no mark of a hart's text: it lies before each stream's start or behind its end, and is neither
-- the exit mark nor the halt mark.
pub record IsUnmarked (code : HartCode) (a : ℕ) : Type 0 where
  pub streams : (c start end : ℕ) → slice_get code.starts c ≡ Some start → slice_get code.ends c ≡ Some end
      → (a < start) ⊎ (end < a)
  pub exit : a ≢ code.exit
  pub halt : a ≢ code.halt

-- a machine whose text has the first three of these words from an address on, each as its instruction
abbrev pub HasGate : World → (base : ℕ) → List ℕ → Type 0
HasGate w base words = (k word : ℕ) → k < 3 → slice_get words k ≡ Some word → w.text (base + 4 * k) ≡ instr_of word

-- The newest step goes on inside a hart's text, or to the word behind its last one, without an access, and comes to no
-- mark.
pub record GoesBy (code : HartCode) (base : ℕ) (t : State) : Type 0 where
  pub within : Within base (base + 4 * length code.words) IsQuiet t
  pub plain : IsUnmarked code t.pc

-- A hart has come to the word behind the last one, with all registers but x1 as they were, and memory too.
pub record PassedBy (code : HartCode) (base : ℕ) (s t : State) : Type 0 where
  pub pc : t.pc ≡ base + 4 * length code.words
  pub regs : (r : ℕ) → r ≢ 1 → get t.regs r ≡ get s.regs r
  pub mem : t.mem ≡ s.mem

-- A hart that comes to the first word with another number than h in x10 passes by in at most three steps.
abbrev pub ShutsOut : HartCode → (h base : ℕ) → Type 0
ShutsOut code h base = (w : World) (s : State) → s.pc ≡ base → HasGate w base code.words → get s.regs 10 ≢ h
    → Takes w (GoesBy code base) (PassedBy code base s) 3 s
