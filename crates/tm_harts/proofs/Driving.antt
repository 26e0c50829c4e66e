-- A seat that was driven turn by turn.
use Rattle.std.proofs.Common.{◌≡◌, ℕ, [], Option, Some, None, inl, inr, sym, ◌∙◌, subst}
use Rattle.tm_plan_cases.specs.declared.event.Event.{Event}
use Rattle.tm_guest.specs.declared.turn.Turn.{Turn}
use Rattle.tm_guest.specs.declared.turn.Turn.TheVariants.{Stepped, Halted, Full}
use Rattle.tm_guest.specs.Guested.{Guested}
use Rattle.tm_turn.specs.History.{made_by, BeginsWith}
use Rattle.tm_turn.specs.Seats.{SeatState}
use Rattle.tm_harts.specs.declared.held.Setup.{Setup}
use Rattle.tm_harts.specs.Mills.{Milled, guest_after, maker_of}
use Rattle.tm_harts.specs.Turns.{AnswersOrNone, event_in, IsTurn, Stays}
use Rattle.tm_harts.specs.Driven.{IsAtEnd, IsDriven}
use Rattle.tm_harts.proofs.Turns.{begins_then}

stays_then : (m : Milled) (a b c : SeatState Event Setup) → Stays m a b → Stays m b c → Stays m a c
stays_then m a b c x y = (y.0, y.1 ∙ x.1, y.2 ∙ x.2)

-- After an answer that is no event the hart is at an end.
at_end : (g after : Guested) (h : ℕ) (answer : Option Turn) → event_in answer ≡ [] → AnswersOrNone g h answer after
    → IsAtEnd after h
at_end g after h None none a = subst (λ (x : Guested). IsAtEnd x h) (sym a.1) (inr (inr a.0.0))
at_end g after h (Some Halted) none a = subst (λ (x : Guested). IsAtEnd x h) (sym a.1.1) (inl a.1.0)
at_end g after h (Some Full) none a = subst (λ (x : Guested). IsAtEnd x h) (sym a.1.2) (inr (inl a.1.1))
at_end g after h (Some (Stepped place e)) none a = absurd cc

-- A seat that was driven up to a turn, and took this turn, which answered no event.
pub driven : (m : Milled) (old before new : SeatState Event Setup) (answer : Option Turn) → Stays m old before
    → BeginsWith before.seen old.seen → Stays m before new → BeginsWith new.seen before.seen
    → made_by maker_of new.number new.seen ≡ new.mine → IsTurn m before answer new → event_in answer ≡ []
    → IsDriven m old new
driven m old before new answer stayed began stays begins own turn none = record {
  stays = stays_then m old before new stayed stays;
  begins = begins_then old.seen before.seen new.seen began begins;
  own = own;
  ended = subst (λ (h : ℕ). IsAtEnd (guest_after m new.seen) h) (sym stays.1)
      (at_end (guest_after m turn.found) (guest_after m new.seen) before.number answer none turn.answers);
}
