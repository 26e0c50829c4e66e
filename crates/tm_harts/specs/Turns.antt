-- What a turn under the lock answers (this project's own).
use Rattle.std.specs.Prelude.{◌≡◌, ℕ, ◌<◌, List, [], ◌∷◌, ◌++◌, length, Option, Some, None}
use Rattle.tm_plan_cases.specs.declared.event.Event.{Event}
use Rattle.tm_guest.specs.declared.turn.Turn.{Turn}
use Rattle.tm_guest.specs.declared.turn.Turn.TheVariants.{Stepped, Halted, Full}
use Rattle.tm_guest.specs.Guested.{Guested}
use Rattle.tm_guest.specs.Turns.{Answers}
use Rattle.tm_guest.specs.Waiting.{Waits}
use Rattle.tm_turn.specs.History.{BeginsWith}
use Rattle.tm_turn.specs.Seats.{SeatState}
use Rattle.tm_harts.specs.declared.held.Setup.{Setup}
use Rattle.tm_harts.specs.Mills.{Milled, guest_after, IsOf}

-- Hart h holds back: it isn't at its halt mark, the journal has fewer events than the limit, and the hart's next step
-- would be an idle read.
abbrev pub HoldsBack : Guested → ℕ → Type 0
HoldsBack g h = Waits g h × (length g.journal < g.limit)

-- What hart h's turn under the lock answers at a guest, and how it leaves it: a hart that holds back makes no event,
-- and any other makes its turn.
abbrev pub AnswersOrNone : Guested → ℕ → Option Turn → Guested → Type 0
AnswersOrNone g h None after = HoldsBack g h × (after ≡ g)
AnswersOrNone g h (Some turn) after = (¬ HoldsBack g h) × Answers g h turn after

-- the event that a turn answered, if it answered one
abbrev pub event_in : Option Turn → List Event
event_in None = []
event_in (Some Halted) = []
event_in (Some Full) = []
event_in (Some (Stepped place e)) = e ∷ []

-- A turn of a seat, from one state of the seat to the next. The history that it found goes on from what the seat had
-- seen; the answer is that of the guest to which this history replays; and where the turn answered an event, the seat
-- has seen and made that event more.
pub record IsTurn (m : Milled) (old : SeatState Event Setup) (answer : Option Turn) (new : SeatState Event Setup)
    : Type 0 where
  pub found : List Event
  pub begins : BeginsWith found old.seen
  pub answers : AnswersOrNone (guest_after m found) old.number answer (guest_after m new.seen)
  pub seen : new.seen ≡ found ++ event_in answer
  pub mine : new.mine ≡ old.mine ++ event_in answer

-- The seat stays of the mill, with its number and with the greatest count that it has read.
abbrev pub Stays : Milled → (old new : SeatState Event Setup) → Type 0
Stays m old new = IsOf m new × (new.number ≡ old.number) × (new.counted ≡ old.counted)
