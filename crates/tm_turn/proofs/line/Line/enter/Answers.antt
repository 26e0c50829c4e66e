use Rattle.std.proofs.Common.{rules, Some, ap, ◌∙◌}
use Rattle.tm_turn.specs.Seats.{SeatState}
use Rattle.tm_turn.proofs.Turns.{draws}
use Rattle.tm_turn.proofs.Recording.{has_slot}
use Rattle.tm_turn.proofs.line.Line.enter.Goals as goal

pub fetch_add-ticket-requires : goal.fetch_add-ticket-requires
fetch_add-ticket-requires g c =
    let S = SeatState g.row.T-Entry.Denot g.row.T-Fixed.Denot in
    let out = c.seat.invariant.outside (ap (λ (s : S). s.inside) c.seat.view_is ∙ c.requires.outside) in
    (search rules, search rules, draws g.T.Kept.maker g.T.Kept.history g.T.Kept.fixed _ _ _ _ out.1)

pub exchange-requires : goal.exchange-requires
exchange-requires g c =
    let k = g.T.Kept in
    let e = c.wait.ensures.comes in
    (search rules, has_slot k.maker k.history k.fixed (k.fixed e.value) _ (Some e.value) e.slot)
