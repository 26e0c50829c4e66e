-- How a store-buffered machine keeps its state (this project's own).
use Rattle.std.specs.Prelude.{◌≡◌, ℕ, ◌+◌, ◌<◌, ◌≤◌, List, [], ◌∷◌, length, slice_index_or, unwrap_or, reverse}
use Rattle.std.specs.List.{AllByRecursion as Each}
use Rattle.tm_base.specs.declared.limits.TheConstants.{MOST_EVENTS}
use Rattle.tm_table.specs.State.{hart_of}
use Rattle.tm_plan_cases.specs.declared.program.Program.{Program}
use Rattle.tm_plan_map.specs.Map.{guest_base, guest_end}
use Rattle.tm_plan_journal.specs.Journaled.{Journaled}
use Rattle.tm_plan_cases.specs.Shaped.{IsProgram}
use Rattle.tm_ram.specs.Region.{Region}
use Rattle.tm_world.specs.Place.{harts, image_byte}
use Rattle.tm_world.specs.Replay.{state_after}
use Rattle.tm_guest.specs.Memory.{IsGuestRegion, byte_at}
use Rattle.tm_guest.specs.Fields.{AreDecoded}
use Rattle.tm_guest.specs.declared.decoded.Decoded.{Decoded}
use Rattle.tm_buffered.specs.Moments.{Moment, Buffered, waiting, memory, left_at, steps_of}
use Rattle.tm_buffer.specs.declared.hart.BufferedHart.{BufferedHart}
use Rattle.tm_buffer.specs.declared.drains.DrainEntry.{DrainEntry}
use Rattle.tm_buffer.specs.Listed.{Drain, Listed, Stored, with_harts}
use Rattle.tm_buffer.specs.Buffer.{AreWaiting}
use Rattle.tm_buffer.specs.Seen.{moments_of, opened, NeverStuck}

-- hart h after these moments: its state, and what waits in its buffer
pub record IsState (list : List Moment) (h : ℕ) (s : BufferedHart) : Type 0 where
  pub state : hart_of s.cpu ≡ state_after (steps_of list) h
  pub buffer : AreWaiting s.buffer.items (waiting h list)

-- all harts after these moments
pub record AreStates (p : Program) (list : List Moment) (states : List BufferedHart) : Type 0 where
  pub count : length states ≡ harts p
  pub each : (h : ℕ) (d : BufferedHart) → h < harts p → IsState list h (slice_index_or states h d)

-- the memory after these moments: at each byte what the last drained write of it left, else the image's
pub record IsMemory (p : Program) (list : List Moment) (r : Region) : Type 0 where
  pub region : IsGuestRegion r
  pub bytes : (b : ℕ) → guest_base ≤ b → b < guest_end
      → byte_at r b ≡ unwrap_or (left_at b (memory list)) (image_byte p b)

-- how many writes wait in all
abbrev pub in_buffers : List BufferedHart → ℕ
in_buffers [] = 0
in_buffers (s ∷ more) = length s.buffer.items + in_buffers more

-- The fields of a machine: its state is that of its moments, and these are a buffered run.
pub record Keeps (p : Program) (limit : ℕ) (decodes : List Decoded) (states : List BufferedHart) (ram : Region)
    (journal : Journaled) (drains : Listed) : Type 0 where
  pub program : IsProgram p
  pub unstuck : NeverStuck p
  pub few : limit ≤ MOST_EVENTS
  pub room : journal.room ≡ limit
  pub within : length journal.events ≤ limit
  pub space : drains.room ≡ limit
  pub each_once : length drains.drains + in_buffers states ≤ length journal.events
  pub early : Each (λ (d : Drain). d.after ≤ length journal.events) (reverse drains.drains)
  pub rows : AreDecoded p.text decodes
  pub each_hart : AreStates p (moments_of p journal.events drains.drains) states
  pub memory : IsMemory p (moments_of p journal.events drains.drains) ram
  pub goes_on : Buffered p (opened (moments_of p journal.events drains.drains))

-- So are the fields as they are kept: each entry is of a write whose event is in the journal.
pub record KeepsStored (p : Program) (limit : ℕ) (decodes : List Decoded) (states : List BufferedHart) (ram : Region)
    (journal : Journaled) (drains : Stored) : Type 0 where
  pub keeps : Keeps p limit decodes states ram journal (with_harts journal.events drains)
  pub made : Each (λ (d : DrainEntry). d.write < length journal.events) drains.entries
