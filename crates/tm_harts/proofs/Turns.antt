-- What follows from the answer of a turn.
use Rattle.std.proofs.Common.{◌≡◌, ℕ, ◌<◌, List, [], ◌∷◌, ◌++◌, length, drop, Option, Some, None}
use Rattle.std.proofs.Common.{true, false, inl, inr, sym, ap, ◌∙◌, subst}
use Rattle.std.proofs.Common.{arith, append_assoc, append-nil, length-append}
use Rattle.tm_plan_cases.specs.declared.event.Event.{Event}
use Rattle.tm_guest.specs.declared.turn.Turn.{Turn}
use Rattle.tm_guest.specs.declared.turn.Turn.TheVariants.{Stepped, Halted, Full}
use Rattle.tm_guest.specs.Guested.{Guested}
use Rattle.tm_turn.specs.History.{BeginsWith, AddsAtMostOne}
use Rattle.tm_turn.specs.Seats.{LineId, SeatState}
use Rattle.tm_turn.proofs.Places.{one_value, after_seen}
use Rattle.tm_harts.specs.declared.held.Setup.{Setup}
use Rattle.tm_harts.specs.Mills.{Milled, mill_of, guest_after, maker_of, setup_of}
use Rattle.tm_harts.specs.Turns.{AnswersOrNone, IsTurn, event_in}

-- ---- the guest after a turn

as_it_was : (g : Guested) → g ≡ record g { journal = g.journal ++ [] }
as_it_was g = ap (λ (events : List Event). record g { journal = events }) (sym (append-nil g.journal))

-- The turn leaves the guest with the event more that it answers.
left : (g after : Guested) (h : ℕ) (answer : Option Turn) → AnswersOrNone g h answer after
    → after ≡ record g { journal = g.journal ++ event_in answer }
left g after h None a = a.1 ∙ as_it_was g
left g after h (Some Halted) a = a.1.1 ∙ as_it_was g
left g after h (Some Full) a = a.1.2 ∙ as_it_was g
left g after h (Some (Stepped place e)) a = a.1.longer

journal_of : (g after : Guested) (h : ℕ) (answer : Option Turn) → AnswersOrNone g h answer after
    → after.journal ≡ g.journal ++ event_in answer
journal_of g after h answer a = ap (λ (x : Guested). x.journal) (left g after h answer a)

same_setup : (g after : Guested) (h : ℕ) (answer : Option Turn) → AnswersOrNone g h answer after
    → setup_of after ≡ setup_of g
same_setup g after h answer a = ap setup_of (left g after h answer a)

-- It adds one event at most, of the turn's hart.
pub adds_one : (g after : Guested) (h : ℕ) (answer : Option Turn) → AnswersOrNone g h answer after
    → AddsAtMostOne maker_of h g.journal after.journal
adds_one g after h None a = inl (ap (λ (x : Guested). x.journal) a.1)
adds_one g after h (Some Halted) a = inl (ap (λ (x : Guested). x.journal) a.1.1)
adds_one g after h (Some Full) a = inl (ap (λ (x : Guested). x.journal) a.1.2)
adds_one g after h (Some (Stepped place e)) a = inr (e, ap (λ (x : Guested). x.journal) a.1.longer, a.1.next.hart)

-- The journal stays below what is above the limit.
pub stays_small : (g after : Guested) (h most : ℕ) (answer : Option Turn) → AnswersOrNone g h answer after
    → length g.journal < most → g.limit < most → length after.journal < most
stays_small g after h most None a few room = subst (λ (x : Guested). length x.journal < most) (sym a.1) few
stays_small g after h most (Some Halted) a few room = subst (λ (x : Guested). length x.journal < most) (sym a.1.1) few
stays_small g after h most (Some Full) a few room = subst (λ (x : Guested). length x.journal < most) (sym a.1.2) few
stays_small g after h most (Some (Stepped place e)) a few room =
    omega (arith, a.1.room, ap (λ (x : Guested). length x.journal) a.1.longer, length-append g.journal (e ∷ []))

-- ---- the mill's guest

-- the guest with this setup, after these events
abbrev with_journal : List Event → Setup → Guested
with_journal events s = record { program = s.program; faults = s.faults; limit = s.limit; journal = events }

-- A guest with what the first one has that never changes is the mill's, after the events of its journal.
as_guest_after : (line : LineId Setup) (first g : Guested) → setup_of g ≡ setup_of first
    → g ≡ guest_after (mill_of line first) g.journal
as_guest_after line first g e = ap (with_journal g.journal) e

pub is_guest_after : (m : Milled) (line : LineId Setup) (first g : Guested) → mill_of line first ≡ m
    → line.fixed ≡ Some (setup_of first) → Some (setup_of g) ≡ line.fixed → g ≡ guest_after m g.journal
is_guest_after m line first g is fixed same =
    as_guest_after line first g (one_value (same ∙ fixed)) ∙ ap (λ (x : Milled). guest_after x g.journal) is

-- ---- the seat after a turn

pub begins_then : (before between after : List Event) → BeginsWith between before → BeginsWith after between
    → BeginsWith after before
begins_then before between after a b =
    (a.0 ++ b.0, b.1 ∙ (ap (λ l. l ++ b.0) a.1 ∙ append_assoc before a.0 b.0))

module _ (old entered : SeatState Event Setup) (found after : Guested) (number : ℕ) (answer : Option Turn) where
  -- what a turn was told between entering and leaving: of the seat that entered, whose number it read, and of the
  -- guest that it found and left
  pub record IsInside : Type 0 where
    pub seat : entered ≡ record old { inside = true; seen = found.journal }
    pub begins : BeginsWith found.journal old.seen
    pub number_is : number ≡ entered.number
    pub answers : AnswersOrNone found number answer after

  old_number : IsInside → number ≡ old.number
  old_number i = i.number_is ∙ ap (λ (s : SeatState Event Setup). s.number) i.seat

  answers_old : IsInside → AnswersOrNone found old.number answer after
  answers_old i = subst (λ (h : ℕ). AnswersOrNone found h answer after) (old_number i) i.answers

  -- So the seat may leave:
  pub may_leave : IsInside → AddsAtMostOne maker_of entered.number entered.seen after.journal
  may_leave i =
      subst (λ (s : SeatState Event Setup). AddsAtMostOne maker_of s.number s.seen after.journal) (sym i.seat)
      (adds_one found after old.number answer (answers_old i))

  -- the mill's guest, before and after the turn, and the seat that it left
  pub record IsLeft (m : Milled) (new : SeatState Event Setup) : Type 0 where
    pub told : IsInside
    pub guest : found ≡ guest_after m found.journal
    pub left : new ≡ record entered {
      inside = false;
      seen = after.journal;
      mine = entered.mine ++ drop (length entered.seen) after.journal;
    }

  seen_is : {m : Milled} {new : SeatState Event Setup} → IsLeft m new → new.seen ≡ after.journal
  seen_is t = ap (λ (s : SeatState Event Setup). s.seen) t.left

  seen_grows : {m : Milled} {new : SeatState Event Setup} → IsLeft m new
      → new.seen ≡ found.journal ++ event_in answer
  seen_grows t = seen_is t ∙ journal_of found after old.number answer (answers_old t.told)

  after_is : {m : Milled} {new : SeatState Event Setup} → IsLeft m new → after ≡ guest_after m new.seen
  after_is {m = m} t =
      let same = same_setup found after old.number answer (answers_old t.told) ∙ ap setup_of t.guest in
      ap (with_journal after.journal) same ∙ ap (guest_after m) (sym (seen_is t))

  mine_is : {m : Milled} {new : SeatState Event Setup} → IsLeft m new → new.mine ≡ old.mine ++ event_in answer
  mine_is t =
      ap (λ (s : SeatState Event Setup). s.mine) t.left
      ∙ (ap (λ (s : SeatState Event Setup). s.mine ++ drop (length s.seen) after.journal) t.told.seat
      ∙ ap (λ l. old.mine ++ l)
      (ap (drop (length found.journal)) (journal_of found after old.number answer (answers_old t.told))
      ∙ after_seen found.journal (event_in answer)))

  pub is_turn : (m : Milled) (new : SeatState Event Setup) → IsLeft m new → IsTurn m old answer new
  is_turn m new t = record {
    found = found.journal;
    begins = t.told.begins;
    answers = subst (λ (g : Guested × Guested). AnswersOrNone g.0 old.number answer g.1)
        (λ i. (t.guest i, after_is t i)) (answers_old t.told);
    seen = seen_grows t;
    mine = mine_is t;
  }

  pub turn_begins : (m : Milled) (new : SeatState Event Setup) → IsLeft m new → BeginsWith new.seen old.seen
  turn_begins m new t = begins_then old.seen found.journal new.seen t.told.begins (event_in answer, seen_grows t)
