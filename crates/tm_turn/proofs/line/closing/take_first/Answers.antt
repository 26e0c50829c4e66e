use Rattle.std.proofs.Common.{◌<◌, List, length, slice_get, ap, ◌∙◌, subst}
use Rattle.tm_turn.specs.Seats.{SeatState}
use Rattle.tm_turn.proofs.Places.{get_index}
use Rattle.tm_turn.proofs.Closing.{first_out}
use Rattle.tm_turn.proofs.line.closing.take_first.Goals as goal

pub returns : goal.returns
returns g c =
    let S = SeatState g.row.T-Entry.Denot g.row.T-Fixed.Denot in
    let all = c.args.seats.now.items in
    let place = c.first_place-place.result in
    let r = c.remove.result in
    let same = c.as_slice.ensures.value in
    let low = subst (λ (l : List S). place < length l) same c.first_place-place.ensures.0 in
    let at = get_index all place r low c.remove.ensures.value in
    let zeroth = c.first_place-place.ensures.1 r (ap (λ (l : List S). slice_get l place) same ∙ at) in
    let h = first_out g.T.Kept.maker c.args.line.now all c.remove.new.self.items _ _ _ place _ r c.requires at
    c.remove.ensures.items zeroth c.seat.view_is c.seat.invariant in
    record { place = h.0; first = h.1 }
