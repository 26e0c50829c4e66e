-- Which hart waits at the barrier (this project's own).
use Rattle.std.specs.Prelude.{ℕ, suc, Bool, false, ◌||◌, ◌==◌, IsTrue, if◌then◌else◌}
use Rattle.tm_plan_cases.specs.declared.event.Event.{Event}
use Rattle.tm_world.specs.Run.{own}
use Rattle.tm_world.specs.Kinds.{writes_flag}
use Rattle.tm_world.specs.Work.{is_idle_read}
use Rattle.tm_world.specs.Replay.{stepped}
use Rattle.tm_guest.specs.Guested.{Guested, steps, IsHalted}
use Rattle.tm_guest.specs.Turns.{IsNextEvent}

-- The event would be an idle read of hart h: a read of another hart's flag, after h's own signal of its phase, that
-- finds less than the phase's number and 1.
abbrev pub IsIdle : Guested → ℕ → Event → Type 0
IsIdle g h e = IsTrue (is_idle_read g.program h (own h (steps g)) (stepped g.program g.faults (steps g) e))

-- Hart h isn't at its halt mark, and its next event is an idle read.
abbrev pub Waits : Guested → ℕ → Type 0
Waits g h = (¬ IsHalted g h) × ((e : Event) × IsNextEvent g h e × IsIdle g h e)

-- ---- how a guest knows it

-- the phase after a step at pc, where the exit mark is at exit
abbrev pub phase_after : ℕ → ℕ → ℕ → ℕ
phase_after exit pc phase = if pc == exit then suc phase else phase

-- whether hart h has signalled in its phase, after an event
abbrev pub signalled_after : ℕ → ℕ → Event → Bool → Bool
signalled_after exit h e before = if e.pc == exit then false else (writes_flag h e.access || before)
