-- A half run's steps as a run of the one-hart machine (this project's own).
use Rattle.std.specs.Prelude.{◌≡◌, ℕ, ◌+◌, ◌%◌, ◌^◌, ◌<◌, List, [], ◌∷◌, length, slice_index, Some, IsTrue}
use Rattle.tm_table.specs.State.{Hart}
use Rattle.tm_plan_cases.specs.declared.program.Program.{Program}
use Rattle.tm_world.specs.Place.{harts, byte_of}
use Rattle.tm_world.specs.Run.{Step, now, first_state, pc_of, access_of}
use Rattle.tm_world.specs.Kinds.{IsOpening, HalfPath, half_owed}
use Rattle.tm_runs.specs.Machine.{Entry, State, get}
use Rattle.tm_runs.specs.Runs.{Run}
use Rattle.tm_runs.specs.World.{Sizes, world_of, start}

-- what a log says of a step
abbrev pub entry_of : Step → Entry
entry_of s = record {
  pc = pc_of s;
  next = s.after.pc;
  word = s.event.word;
  access = access_of s;
  regs = λ r. slice_index s.after.x r;
}

-- the entries of steps, in the same order
abbrev pub entries_of : List Step → List Entry
entries_of [] = []
entries_of (s ∷ past) = entry_of s ∷ entries_of past

-- The state of the machine is that of hart h after its own steps: its program counter and registers, its log, and the
-- bytes that it reads back.
pub record Shadow (p : Program) (h : ℕ) (first : Hart) (own : List Step) (t : State) : Type 0 where
  pub pc : t.pc ≡ (now first own).pc
  pub regs : (r : ℕ) → get t.regs r ≡ slice_index (now first own).x r
  pub fits : (r : ℕ) → get t.regs r < 2 ^ 64
  pub log : t.log ≡ entries_of own
  pub dwords : (a : ℕ) → IsTrue ((world_of p h).own a) → a % 8 ≡ 0 → t.mem a < 2 ^ 64
  pub bytes : (a i : ℕ) → IsTrue ((world_of p h).own a) → a % 8 ≡ 0 → i < 8
      → half_owed p h own (a + i) ≡ Some (byte_of (t.mem a) i)

-- a run of the machine from its start to hart h's state after its own steps
pub record Shadowed (p : Program) (h : ℕ) (x : List ℕ) (own : List Step) : Type 0 where
  pub state : State
  pub run : Run (world_of p h) (length own) (start p x) state
  pub shadow : Shadow p h (first_state x) own state

-- Each hart's steps of a half run are a run of the machine.
abbrev pub HalfRunsAreRuns : Program → Type 0
HalfRunsAreRuns p = Sizes p → (h : ℕ) → h < harts p → (x : List ℕ) → IsOpening h x → (own : List Step)
    → HalfPath p h (first_state x) own → Shadowed p h x own
