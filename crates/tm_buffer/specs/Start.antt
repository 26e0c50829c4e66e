-- Harts before their first steps (this project's own).
use Rattle.std.specs.Prelude.{◌≡◌, ℕ, ◌<◌, List, [], length, slice_index_or}
use Rattle.tm_table.specs.State.{hart_of}
use Rattle.tm_world.specs.Run.{first_state}
use Rattle.tm_world.specs.Replay.{opening}
use Rattle.tm_buffer.specs.declared.hart.BufferedHart.{BufferedHart}

-- hart h before its first step
pub record IsOpened (h : ℕ) (s : BufferedHart) : Type 0 where
  pub state : hart_of s.cpu ≡ first_state (opening h)
  pub empty : s.buffer.items ≡ []

-- harts before their first steps
pub record AreOpened (harts : ℕ) (states : List BufferedHart) : Type 0 where
  pub count : length states ≡ harts
  pub each : (h : ℕ) (d : BufferedHart) → h < harts → IsOpened h (slice_index_or states h d)
