-- Laws of harts that meet on buffered runs (this project's own).
use Rattle.std.specs.Prelude.{◌≡◌, ◌≢◌, ◌⊎◌, ℕ, ◌+◌, ◌<◌, ◌≤◌, List, [], ◌∷◌, ◌++◌, IsTrue}
use Rattle.tm_plan_cases.specs.declared.program.Program.{Program}
use Rattle.tm_base.specs.Lists.{any}
use Rattle.tm_world.specs.Lists.{count}
use Rattle.tm_world.specs.Place.{harts}
use Rattle.tm_world.specs.Run.{own, hart_of}
use Rattle.tm_world.specs.Kinds.{phase_of, flag_writes}
use Rattle.tm_world.specs.Course.{signals, this_phase}
use Rattle.tm_world.specs.Work.{is_idle_read}
use Rattle.tm_memory.specs.Meet.{AllMeet}
use Rattle.tm_meet.specs.Waits.{IsHalted}
use Rattle.tm_buffered.specs.Moments.{Moment, Makes, Drains, Moments, Buffered, Entry, steps_of, waiting, memory, MayDrain}
use Rattle.tm_buffered.specs.Moments.{AtEach, run_of}
use Rattle.tm_buffered.specs.Signals.{made, landed}

-- A signal of hart g waits: it is the oldest write in the hart's buffer, and may drain.
pub record SignalWaits (g : ℕ) (list : List Moment) : Type 0 where
  pub newer : List Entry
  pub entry : Entry
  pub is : waiting g list ≡ newer ++ (entry ∷ [])
  pub signal : IsTrue (signals g entry.step)
  pub may : MayDrain g entry.number list

-- A hart's signals are all in memory, or all but the last, which waits.
abbrev pub SignalsLand : Program → Type 0
SignalsLand p = AllMeet p → (m : Moments) → Buffered p m → (g : ℕ) → g < harts p
    → (made g m.list ≡ landed g m.list) ⊎ (SignalWaits g m.list × (made g m.list ≡ landed g m.list + 1))

-- No hart is in a later phase than the signals of all others in memory.
abbrev pub NoneAheadHere : Program → Type 0
NoneAheadHere p = AllMeet p → (m : Moments) → Buffered p m → (h g : ℕ) → h < harts p → g < harts p → g ≢ h
    → phase_of p (steps_of m.list) h ≤ landed g m.list

-- Hart h waits: it has signalled in its phase, and another hart's signal of it is not in memory yet.
pub record WaitsHere (p : Program) (list : List Moment) (h : ℕ) : Type 0 where
  pub signalled : IsTrue (any (signals h) (this_phase p h (own h (steps_of list))))
  pub other : ℕ
  pub few : other < harts p
  pub differs : other ≢ h
  pub behind : landed other list ≤ phase_of p (steps_of list) h

-- the hart of the step waits, where it makes an idle read
abbrev pub IdleIsWait : Program → List Moment → Moment → Type 0
IdleIsWait p before (Makes s) =
    IsTrue (is_idle_read p (hart_of s) (own (hart_of s) (steps_of before)) s) → WaitsHere p before (hart_of s)
IdleIsWait p before (Drains h w) = Unit {0}

-- An idle read is made by a hart that waits.
abbrev pub IdleWaitsHere : Program → Type 0
IdleWaitsHere p = AllMeet p → (m : Moments) → Buffered p m → AtEach (IdleIsWait p) m.list

-- Harts never wait for each other all at once: where some hart isn't at halt, some such hart doesn't wait, but for a
-- signal that was made and waits to drain.
abbrev pub SomeGoesOnHere : Program → Type 0
SomeGoesOnHere p = AllMeet p → (m : Moments) → Buffered p m → (h : ℕ) → h < harts p → (IsHalted p (run_of m) h → ⊥)
    → (g : ℕ) × (g < harts p) × (IsHalted p (run_of m) g → ⊥)
    × ((w : WaitsHere p m.list g) → (k : ℕ) × (k < harts p) × SignalWaits k m.list)
