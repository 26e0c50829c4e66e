-- Seats of a mill: those that are new, and those that were driven.
use Rattle.std.proofs.Common.{◌≡◌, ℕ, List, length, ap, ◌∙◌, arith}
use Rattle.tm_plan_cases.specs.declared.event.Event.{Event}
use Rattle.tm_world.specs.Place.{harts}
use Rattle.tm_turn.specs.Seats.{LineId, SeatState, AreNew, AreAllOutside, HasNumber}
use Rattle.tm_turn.proofs.Places.{got_within, in_bounds}
use Rattle.tm_harts.specs.declared.held.Setup.{Setup}
use Rattle.tm_harts.specs.Mills.{Milled, AreAllOf}
use Rattle.tm_harts.specs.Driven.{AreDriven}

-- New seats, one for each hart, are all the mill's.
pub all_new : (m : Milled) (seats : List (SeatState Event Setup)) → length seats ≡ harts m.program
    → AreNew m.line 0 seats → AreAllOf m seats
all_new m seats count new = record {
  each = λ k s at. let is = new k s at in let within = in_bounds seats k s at in
      let number = ap (λ (x : SeatState Event Setup). x.number) is in
      (ap (λ (x : SeatState Event Setup). x.line) is, omega arith, ap (λ (x : SeatState Event Setup). x.inside) is);
  all = λ h l.
      let got = got_within seats h (omega arith) in
      let number = ap (λ (x : SeatState Event Setup). x.number) (new h got.0 got.1) in
      (h, got.0, got.1, omega arith);
}

-- All the mill's seats are all its line's.
pub all_of_line : (m : Milled) (line : LineId Setup) (seats : List (SeatState Event Setup)) → m.line ≡ line
    → line.seats ≡ harts m.program → AreAllOf m seats → AreAllOutside line seats
all_of_line m line seats is count a = record {
  outside = λ k s at. (((a.each k s at).0 ∙ is), (a.each k s at).2);
  all = λ n l. a.all n (omega arith);
}

-- Seats that were driven are all the mill's, where they were before.
pub all_driven : (m : Milled) (old new : List (SeatState Event Setup)) → length new ≡ length old → AreDriven m old new
    → AreAllOf m old → AreAllOf m new
all_driven m old new same driven a = record {
  each = λ k t at.
      let within = in_bounds new k t at in
      let s = got_within old k (omega arith) in
      (driven k s.0 t s.1 at).stays.0;
  all = λ h l. all_of (a.all h l);
}
  where
    all_of : {h : ℕ} → HasNumber h old → HasNumber h new
    all_of (k, s, at, number) =
        let within = in_bounds old k s at in
        let t = got_within new k (omega arith) in
        (k, t.0, t.1, (driven k s t.0 at t.1).stays.1 ∙ number)
