use Rattle.std.proofs.Common.{rules, [], ◌∷◌, length, sym, ap, ◌∙◌, subst, arith}
use Rattle.std.proofs.Common.{length-append}
use Rattle.tm_turn.specs.Views.{after_giving}
use Rattle.tm_turn.specs.Steps.{Mine}
use Rattle.tm_turn.specs.Seats.{AreNew, SeatState, seat_state}
use Rattle.tm_turn.proofs.Dealing.{deals, dealt, AreNew-push}
use Rattle.tm_turn.proofs.line.opening.deal.Goals as goal

pub split_seat-seat-requires : goal.split_seat-seat-requires
split_seat-seat-requires g c =
    let view_is = c.loop-number.invariant.view_is in (
      search rules,
      search rules,
      deals g.T.Kept.maker g.T.Kept.history g.T.Kept.fixed _ _ _ _ _ _ view_is (omega arith) (omega arith),
    )

pub loop-number-preserved : goal.loop-number-preserved
loop-number-preserved g c =
    let i = c.loop-number.invariant in
    let e = c.split_seat-seat.ensures in
    let M = Mine g.T.Kept.maker g.T.Kept.history g.T.Kept.fixed in
    let line = c.args.line.now in
    let number = c.loop-number.number in
    let rest = c.loop-number.rest.items in
    let more = c.push_reserved.ensures.items in
    let split = c.split_seat-seat.result in
    let y : SeatState g.row.T-Entry.Denot g.row.T-Fixed.Denot = seat_state split.table_id split.me.0 in
    let y_is = dealt line c.args.seats number split.table_id c.loop-number.first.me.0 split.me.0 c.requires.seats.0
    (e.3 ∙ i.same_table) (ap (λ (m : M). m.0) e.4) (ap (λ (m : M). m.0) i.view_is) in
    record {
      same_table = search rules;
      view_is = e.2 ∙ ap (λ (m : M). (after_giving m.0, m.1)) i.view_is;
      count = let n = i.count in omega (arith, ap length more, length-append rest (y ∷ []));
      room = search rules;
      seats_are = subst (AreNew line 1) (sym more)
          (AreNew-push line 1 rest y number (let n = i.count in omega arith) i.seats_are y_is);
    }
