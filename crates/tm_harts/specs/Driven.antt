-- Seats that were driven to an end (this project's own).
use Rattle.std.specs.Prelude.{◌≡◌, ◌⊎◌, ℕ, List, length, slice_get, Some}
use Rattle.tm_plan_cases.specs.declared.event.Event.{Event}
use Rattle.tm_guest.specs.Guested.{Guested, IsHalted}
use Rattle.tm_guest.specs.Waiting.{Waits}
use Rattle.tm_turn.specs.History.{made_by, BeginsWith}
use Rattle.tm_turn.specs.Seats.{SeatState}
use Rattle.tm_harts.specs.declared.held.Setup.{Setup}
use Rattle.tm_harts.specs.Mills.{Milled, guest_after, maker_of}
use Rattle.tm_harts.specs.Turns.{Stays}

-- Hart h was driven to an end: it is at its halt mark, or the journal has as many events as the limit, or the hart's
-- next step would be an idle read.
abbrev pub IsAtEnd : Guested → ℕ → Type 0
IsAtEnd g h = IsHalted g h ⊎ ((length g.journal ≡ g.limit) ⊎ Waits g h)

-- A seat of the mill before and after it was driven. Its hart is at an end on the guest to which the history replays
-- that it has seen.
pub record IsDriven (m : Milled) (old new : SeatState Event Setup) : Type 0 where
  pub stays : Stays m old new
  pub begins : BeginsWith new.seen old.seen
  pub own : made_by maker_of new.number new.seen ≡ new.mine
  pub ended : IsAtEnd (guest_after m new.seen) new.number

-- Each seat was driven, and has its place.
abbrev pub AreDriven : Milled → (old new : List (SeatState Event Setup)) → Type 0
AreDriven m old new = (k : ℕ) (s t : SeatState Event Setup) → slice_get old k ≡ Some s → slice_get new k ≡ Some t
    → IsDriven m s t
