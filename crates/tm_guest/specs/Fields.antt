-- How a guest keeps its state (this project's own).
use Rattle.std.specs.Prelude.{◌≡◌, ℕ, ◌≤◌, ◌<◌, List, length, slice_index, slice_index_or, Some, unwrap_or}
use Rattle.tm_table.specs.declared.instr.Instr.{Instr}
use Rattle.tm_table.specs.State.{Hart, hart_of}
use Rattle.tm_table.specs.Row.{row, row_word}
use Rattle.tm_table.specs.Words.{Fits}
use Rattle.tm_plan_map.specs.Slots.{instr_of}
use Rattle.tm_plan_cases.specs.declared.program.Program.{Program}
use Rattle.tm_plan_map.specs.Map.{guest_base, guest_end}
use Rattle.tm_plan_journal.specs.Journaled.{Journaled}
use Rattle.tm_plan_cases.specs.Shaped.{IsProgram}
use Rattle.tm_ram.specs.Region.{Region}
use Rattle.tm_base.specs.Lists.{any}
use Rattle.tm_base.specs.declared.limits.TheConstants.{MOST_EVENTS}
use Rattle.tm_world.specs.Place.{harts, exit_of, image_byte, word_at}
use Rattle.tm_world.specs.Run.{Step, own, phase, last_write}
use Rattle.tm_world.specs.Kinds.{IsPossible}
use Rattle.tm_world.specs.Course.{signals, this_phase}
use Rattle.tm_plan_script.specs.Accepted.{AreAccepted}
use Rattle.tm_world.specs.Whole.{Laid}
use Rattle.tm_changes.specs.Scripted.{Scripted}
use Rattle.tm_world.specs.Script.{FaultedRun}
use Rattle.tm_world.specs.Work.{NeverStuck}
use Rattle.tm_guest.specs.declared.decoded.Decoded.{Decoded}
use Rattle.tm_guest.specs.declared.hart.HartState.{HartState}
use Rattle.tm_world.specs.Replay.{run_of, steps_of, state_after}
use Rattle.tm_guest.specs.Memory.{IsGuestRegion, byte_at}

-- A word, and its instruction where it has one. Each instruction fits.
pub record IsDecoded (w : ℕ) (row : Decoded) : Type 0 where
  pub word : row.word ≡ w
  pub fits : Fits row.instr
  pub instr : (i : Instr) → instr_of w ≡ Some i → row.instr ≡ i

-- the text's words, one row each
pub record AreDecoded (text : List ℕ) (rows : List Decoded) : Type 0 where
  pub count : length rows ≡ length text
  pub each : (k : ℕ) (d : Decoded) → k < length text → IsDecoded (slice_index text k) (slice_index_or rows k d)

-- The row of a word that stands at a hart's program counter: the hart's next step is that of the row's instruction,
-- and its access can be made.
pub record IsRow (p : Program) (hart : Hart) (at : Decoded) : Type 0 where
  pub word : word_at p hart.pc ≡ Some at.word
  pub decoded : instr_of at.word ≡ Some at.instr
  pub fits : Fits at.instr
  pub made : (read : ℕ) → row_word hart at.word read ≡ Some (row hart at.instr read)
  pub possible : (read : ℕ) → IsPossible (row hart at.instr read).1

-- hart h after these steps: its state, the phase that it is in, and whether it has signalled in it
pub record IsState (p : Program) (steps : List Step) (h : ℕ) (s : HartState) : Type 0 where
  pub state : hart_of s.cpu ≡ state_after steps h
  pub exits : s.phase ≡ phase (exit_of p h) (own h steps)
  pub flag : s.signalled ≡ any (signals h) (this_phase p h (own h steps))

-- all harts after these steps
pub record AreStates (p : Program) (steps : List Step) (states : List HartState) : Type 0 where
  pub count : length states ≡ harts p
  pub each : (h : ℕ) (d : HartState) → h < harts p → IsState p steps h (slice_index_or states h d)

-- the memory after these steps: at each byte the last write of it, else the image's
pub record IsMemory (p : Program) (steps : List Step) (r : Region) : Type 0 where
  pub region : IsGuestRegion r
  pub bytes : (b : ℕ) → guest_base ≤ b → b < guest_end → byte_at r b ≡ unwrap_or (last_write b steps) (image_byte p b)

-- The fields of a guest: its state is what replaying its journal gives, and its journal is a run that the script has
-- changed, whose lines are accepted.
pub record KeepsReplay (p : Program) (changes : Scripted) (limit : ℕ) (decodes : List Decoded)
    (states : List HartState) (ram : Region) (journal : Journaled) : Type 0 where
  pub program : IsProgram p
  pub its_program : changes.program ≡ p
  pub laid : Laid p
  pub accepted : AreAccepted p.cases changes.lines
  pub unstuck : NeverStuck p changes.lines
  pub few : limit ≤ MOST_EVENTS
  pub room : journal.room ≡ limit
  pub within : length journal.events ≤ limit
  pub rows : AreDecoded p.text decodes
  pub each_hart : AreStates p (steps_of p changes.lines journal.events) states
  pub memory : IsMemory p (steps_of p changes.lines journal.events) ram
  pub goes_on : FaultedRun p changes.lines (run_of p changes.lines journal.events)
