-- For callers: all seats of a mill, kept in a Vec.
use Rattle.std.proofs.Common.{◌≡◌, ℕ, List, ◌++◌, length, take, drop, sym, ◌∙◌, subst}
use Rattle.tm_plan_cases.specs.declared.event.Event.{Event}
use Rattle.tm_turn.specs.Seats.{SeatState}
use Rattle.tm_turn.proofs.Places.{written_back}
use Rattle.tm_harts.specs.declared.held.Setup.{Setup}
use Rattle.tm_harts.specs.Mills.{Milled, AreAllOf}

-- They were lent as the Vec's slice and came back.
pub all_back : (m : Milled) (n : ℕ) (old new : List (SeatState Event Setup)) → n ≡ length old
    → length new ≡ length old → AreAllOf m new → AreAllOf m (take n (new ++ drop (length new) old))
all_back m n old new long same a = subst (AreAllOf m) (sym (written_back n new old (long ∙ sym same))) a
