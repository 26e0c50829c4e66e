use Rattle.std.proofs.Common.{rules, ℕ, length, drop, sym, ap, ◌∙◌, subst}
use Rattle.tm_turn.specs.History.{made_by, AddsAtMostOne}
use Rattle.tm_turn.specs.Seats.{LineId, SeatState}
use Rattle.tm_turn.proofs.Entries.{seen_and_news}
use Rattle.tm_turn.proofs.Turns.{leaves}
use Rattle.tm_turn.proofs.Recording.{IsSeat-left}
use Rattle.tm_turn.proofs.line.Line.leave.Goals as goal

pub fetch_add-served-requires : goal.fetch_add-served-requires
fetch_add-served-requires g c =
    let k = g.T.Kept in
    let S = SeatState g.row.T-Entry.Denot g.row.T-Fixed.Denot in
    let L = LineId g.row.T-Fixed.Denot in
    let r = c.requires in
    let me = c.seat.inside.seat.me in
    let here = ap (λ (s : S). s.inside) c.seat.view_is ∙ r.inside in
    let seen = me.0.seen in
    let log = k.history c.args.value in
    let next = subst (λ (s : S). AddsAtMostOne k.maker s.number s.seen log) (sym c.seat.view_is) r.history in (
      search rules,
      search rules,
      leaves k.maker k.history k.fixed _ _ _ me c.write_down.new.seat.me _ c.args.value (drop (length seen) log)
          (c.seat.invariant.inside here).0 here c.write_down.ensures.recorded c.exchange-nothing.ensures.3
          (r.fixed ∙ sym (ap (λ (l : L). l.fixed) c.self.view_is)) (seen_and_news k.maker me.0.number seen log next),
    )

pub invariant_of-seat : goal.invariant_of-seat
invariant_of-seat g c =
    let k = g.T.Kept in
    let S = SeatState g.row.T-Entry.Denot g.row.T-Fixed.Denot in
    let log = k.history c.args.value in
    let next = subst (λ (s : S). AddsAtMostOne k.maker s.number s.seen log) (sym c.seat.view_is) c.requires.history in
    IsSeat-left k.maker _ _ c.seat.inside.seat.me _ _ _ _ log c.seat.invariant next c.write_down.ensures.recorded
    c.exchange-nothing.ensures.3 c.fetch_add-served.ensures.2

pub returns-clause-own : goal.returns-clause-own
returns-clause-own g c =
    let k = g.T.Kept in
    let S = SeatState g.row.T-Entry.Denot g.row.T-Fixed.Denot in
    let log = k.history c.args.value in
    let end = c.fetch_add-served.new.seat.me in
    let next = subst (λ (s : S). AddsAtMostOne k.maker s.number s.seen log) (sym c.seat.view_is) c.requires.history in
    let sits = IsSeat-left k.maker c.seat.inside.number c.seat.inside.entries c.seat.inside.seat.me _ _ end _ log
    c.seat.invariant next c.write_down.ensures.recorded c.exchange-nothing.ensures.3 c.fetch_add-served.ensures.2 in
    ap (λ (n : ℕ). made_by k.maker n end.0.seen) sits.number_is ∙ sits.own
