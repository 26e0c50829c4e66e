use Rattle.std.proofs.Common.{rules, ◌≡◌, ◌≢◌, ◌<◌, ℕ, length, slice_get, sym, ap, ◌∙◌, subst}
use Rattle.std.proofs.lemmas.Iterator.{IsFirst-from_position, YieldsList-from_slice}
use borrow.Author.Tests.{tests}
use Rattle.tm_turn.specs.Seats.{SeatState, LineId}
use Rattle.tm_turn.proofs.Places.{none_some, one_value}
use Rattle.tm_turn.proofs.Closing.{finds_first}
use Rattle.tm_turn.proofs.line.closing.first_place.Goals as goal

pub unreachable-requires : goal.unreachable-requires
unreachable-requires g c =
    let S = SeatState g.row.T-Entry.Denot g.row.T-Fixed.Denot in
    let L = LineId g.row.T-Fixed.Denot in
    let seats = c.args.seats.now in
    let some = subst (λ (n : ℕ). 0 < n) (ap (λ (l : L). l.seats) c.line.view_is) c.line.invariant.2 in
    let found = finds_first c.args.line.now seats c.position.result c.requires some
    (IsFirst-from_position _ _ c.position.result (λ (s : S). s.number ≡ 0) (λ (s : S). s.number ≢ 0)
    c.position.ensures.ran (YieldsList-from_slice seats cc) (λ x q k. search (rules, tests))
    (λ x q k. search (rules, tests))) in
    none_some (sym c.in_default.is ∙ found.1)

pub returns : goal.returns
returns g c =
    let S = SeatState g.row.T-Entry.Denot g.row.T-Fixed.Denot in
    let L = LineId g.row.T-Fixed.Denot in
    let seats = c.args.seats.now in
    let some = subst (λ (n : ℕ). 0 < n) (ap (λ (l : L). l.seats) c.line.view_is) c.line.invariant.2 in
    let found = finds_first c.args.line.now seats c.position.result c.requires some
    (IsFirst-from_position _ _ c.position.result (λ (s : S). s.number ≡ 0) (λ (s : S). s.number ≢ 0)
    c.position.ensures.ran (YieldsList-from_slice seats cc) (λ x q k. search (rules, tests))
    (λ x q k. search (rules, tests))) in
    let same = one_value (sym found.1 ∙ c.in-Some.is) in
    (subst (λ (i : ℕ). i < length seats) same found.2, λ s e. found.3 s (ap (slice_get seats) same ∙ e))
