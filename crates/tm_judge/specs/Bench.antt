-- How a judge keeps its harts and its memory (this project's own).
use Rattle.std.specs.Prelude.{◌≡◌, ℕ, suc, ◌<◌, List, length, slice_index_or, slice_set, if◌then◌else◌}
use Rattle.tm_table.specs.declared.state.Access.{Access}
use Rattle.tm_table.specs.State.{Hart, hart_of}
use Rattle.tm_plan_cases.specs.declared.program.Program.{Program}
use Rattle.tm_plan_cases.specs.declared.event.Event.{Event}
use Rattle.tm_world.specs.Place.{harts}
use Rattle.tm_world.specs.Run.{Step, own, first_state}
use Rattle.tm_world.specs.Kinds.{writes_flag, flag_writes, phase_of}
use Rattle.tm_world.specs.Replay.{opening, state_after}
use Rattle.tm_guest.specs.Waiting.{phase_after}
use Rattle.tm_judge.specs.declared.bench.Seat.{Seat}

-- hart h after these steps: its state, the phase that it is in, and how often it has written its flag
pub record IsSeat (p : Program) (past : List Step) (h : ℕ) (s : Seat) : Type 0 where
  pub state : hart_of s.cpu ≡ state_after past h
  pub exits : s.phase ≡ phase_of p past h
  pub flags : s.signals ≡ flag_writes h (own h past)

-- all harts after these steps
pub record AreSeats (p : Program) (past : List Step) (seats : List Seat) : Type 0 where
  pub count : length seats ≡ harts p
  pub each : (h : ℕ) (d : Seat) → h < harts p → IsSeat p past h (slice_index_or seats h d)

-- hart h before its first step
pub record IsOpened (h : ℕ) (s : Seat) : Type 0 where
  pub state : hart_of s.cpu ≡ first_state (opening h)
  pub exits : s.phase ≡ 0
  pub flags : s.signals ≡ 0

-- harts before their first steps
pub record AreOpened (harts : ℕ) (seats : List Seat) : Type 0 where
  pub count : length seats ≡ harts
  pub each : (h : ℕ) (d : Seat) → h < harts → IsOpened h (slice_index_or seats h d)

-- how often hart h has written its flag, after an access of its own
abbrev pub signals_after : ℕ → Access → ℕ → ℕ
signals_after h access before = if writes_flag h access then suc before else before

-- A hart whose exit mark is at exit, before and after an event that leaves it in this state.
pub record IsNoted (exit : ℕ) (e : Event) (next : Hart) (old new : Seat) : Type 0 where
  pub state : hart_of new.cpu ≡ next
  pub exits : new.phase ≡ phase_after exit e.pc old.phase
  pub flags : new.signals ≡ signals_after e.hart e.access old.signals

-- All harts, before and after such an event.
pub record AreNoted (exit : ℕ) (e : Event) (next : Hart) (olds news : List Seat) : Type 0 where
  pub old : Seat
  pub new : Seat
  pub was : old ≡ slice_index_or olds e.hart old
  pub set : news ≡ slice_set olds e.hart new
  pub noted : IsNoted exit e next old new
