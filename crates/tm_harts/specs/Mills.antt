-- Mills and their seats, as contracts see them (this project's own).
use Rattle.std.specs.Prelude.{◌≡◌, ℕ, ◌<◌, false, List, slice_get, Some}
use Rattle.tm_plan_cases.specs.declared.program.Program.{Program}
use Rattle.tm_plan_cases.specs.declared.event.Event.{Event}
use Rattle.tm_plan_script.specs.declared.faults.FaultLine.{FaultLine}
use Rattle.tm_world.specs.Place.{harts}
use Rattle.tm_guest.specs.Guested.{Guested}
use Rattle.tm_turn.specs.Seats.{LineId, SeatState, HasNumber}
use Rattle.tm_harts.specs.declared.held.Setup.{Setup}

-- A mill: the line of its seats, and the program, the lines of the script and the limit of its guest.
pub record Milled : Type 0 where
  pub line : LineId Setup
  pub program : Program
  pub faults : List FaultLine
  pub limit : ℕ

-- the mill of a guest
abbrev pub mill_of : LineId Setup → Guested → Milled
mill_of line g = record { line = line; program = g.program; faults = g.faults; limit = g.limit }

-- the mill's guest after these events
abbrev pub guest_after : Milled → List Event → Guested
guest_after m events = record { program = m.program; faults = m.faults; limit = m.limit; journal = events }

-- what never changes of a guest
abbrev pub setup_of : Guested → Setup
setup_of g = record { program = g.program; faults = g.faults; limit = g.limit }

-- the hart that made an event
abbrev pub maker_of : Event → ℕ
maker_of e = e.hart

-- The seat is of the mill: it is one of the mill's line, its number is that of a hart of the mill's program, and it
-- isn't inside.
abbrev pub IsOf : Milled → SeatState Event Setup → Type 0
IsOf m s = (s.line ≡ m.line) × (s.number < harts m.program) × (s.inside ≡ false)

-- Each of the seats is of the mill.
abbrev pub AreOf : Milled → List (SeatState Event Setup) → Type 0
AreOf m seats = (k : ℕ) (s : SeatState Event Setup) → slice_get seats k ≡ Some s → IsOf m s

-- They are all the mill's seats, one for each hart, in any order.
pub record AreAllOf (m : Milled) (seats : List (SeatState Event Setup)) : Type 0 where
  pub each : AreOf m seats
  pub all : (h : ℕ) → h < harts m.program → HasNumber h seats
