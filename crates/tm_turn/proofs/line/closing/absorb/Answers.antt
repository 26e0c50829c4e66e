use Rattle.std.proofs.Common.{rules, ap, ◌∙◌}
use Rattle.tm_turn.specs.Seats.{SeatState}
use Rattle.tm_turn.proofs.Joining.{joins}
use Rattle.tm_turn.proofs.line.closing.absorb.Goals as goal

pub join_seat-requires : goal.join_seat-requires
join_seat-requires g c =
    let k = g.T.Kept in
    let S = SeatState g.row.T-Entry.Denot g.row.T-Fixed.Denot in
    let out = c.seat.invariant.outside (ap (λ (s : S). s.inside) c.seat.view_is ∙ c.requires.seat.1) in (
      search rules,
      search rules,
      out.0,
      search rules,
      joins k.maker k.history k.fixed _ _ _ _ _ c.seat.invariant.live out.1,
    )
