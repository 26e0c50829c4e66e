-- The drains of a simulation, and how they are kept (this project's own).
use Rattle.std.specs.Prelude.{ℕ, ◌==◌, List, [], ◌∷◌, length, reverse, if◌then◌else◌}
use Rattle.tm_plan_cases.specs.declared.event.Event.{Event}
use Rattle.tm_buffer.specs.declared.drains.DrainEntry.{DrainEntry}

-- A write that drained: how many steps had been made by then, its hart, and how many were made before its own.
pub record Drain : Type 0 where
  pub after : ℕ
  pub hart : ℕ
  pub write : ℕ

-- the drains in order, and for how many there is room
pub record Listed : Type 0 where
  pub drains : List Drain
  pub room : ℕ

-- ---- kept without their harts, which the journal has

-- the entries in order, and for how many there is room
pub record Stored : Type 0 where
  pub entries : List DrainEntry
  pub room : ℕ

-- of these events, the newest first, the hart of the one before which n were made
abbrev pub hart_at : List Event → ℕ → ℕ
hart_at [] n = 0
hart_at (e ∷ past) n = if length past == n then e.hart else hart_at past n

-- The drain of an entry: its hart is that of the write's event.
abbrev pub named : List Event → DrainEntry → Drain
named events d = record { after = d.after; hart = hart_at (reverse events) d.write; write = d.write }

-- the drains of these entries
abbrev pub named_all : List Event → List DrainEntry → List Drain
named_all events [] = []
named_all events (d ∷ more) = named events d ∷ named_all events more

-- the drains that are kept beside these events
abbrev pub with_harts : List Event → Stored → Listed
with_harts events kept = record { drains = named_all events kept.entries; room = kept.room }
