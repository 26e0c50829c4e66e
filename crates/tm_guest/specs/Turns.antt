-- What a turn of a hart answers (this project's own).
use Rattle.std.specs.Prelude.{◌≡◌, ℕ, ◌<◌, length}
use Rattle.tm_plan_cases.specs.declared.event.Event.{Event}
use Rattle.tm_world.specs.Script.{FaultedRun}
use Rattle.tm_guest.specs.declared.turn.Turn.{Turn}
use Rattle.tm_guest.specs.declared.turn.Turn.TheVariants.{Stepped, Halted, Full}
use Rattle.tm_guest.specs.Guested.{Guested, run, IsHalted, with_event}

-- The event is hart h's next one: with it, the run so far goes on as a run that the script has changed.
pub record IsNextEvent (g : Guested) (h : ℕ) (e : Event) : Type 0 where
  pub hart : e.hart ≡ h
  pub goes_on : FaultedRun g.program g.faults (run (with_event g e))

-- A turn that makes an event, where the hart isn't at halt and there is room: the hart's next event, at the journal's
-- end.
pub record Makes (g : Guested) (h place : ℕ) (e : Event) (after : Guested) : Type 0 where
  pub off_halt : ¬ IsHalted g h
  pub room : length g.journal < g.limit
  pub at_end : place ≡ length g.journal
  pub next : IsNextEvent g h e
  pub longer : after ≡ with_event g e

-- What hart h's turn answers at a guest, and how it leaves it.
abbrev pub Answers : Guested → ℕ → Turn → Guested → Type 0
Answers g h Halted after = IsHalted g h × (after ≡ g)
Answers g h Full after = (¬ IsHalted g h) × (length g.journal ≡ g.limit) × (after ≡ g)
Answers g h (Stepped place e) after = Makes g h place e after
