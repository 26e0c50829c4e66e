use Rattle.std.proofs.Common.{rules, ◌≡◌, ◌+◌, ◌++◌, ℕ, length, length-append, append-nil, append_assoc}
use Rattle.std.proofs.Common.{List, [], ◌∷◌, Option, sym, ap, ◌∙◌, subst, slice_get}
use Rattle.std.specs.Option.{option_to_list}
use Rattle.tm_turn.specs.declared.table.View.{View}
use Rattle.tm_turn.specs.declared.table.Facts.{Facts}
use Rattle.tm_turn.specs.Views.{with_facts}
use Rattle.tm_turn.specs.Steps.{Mine}
use Rattle.tm_turn.specs.Seats.{SeatState, ToldFrom, facts_of_seat}
use Rattle.tm_turn.proofs.Places.{got_last, got_before, one_value, past_end}
use Rattle.tm_turn.proofs.Closing.{popped, ToldFrom-more}
use Rattle.tm_turn.proofs.line.closing.gather.Goals as goal

pub loop-seat-init : goal.loop-seat-init
loop-seat-init g c = record {
  same_table = c.requires.first;
  view_is = search rules;
  seats_are = c.requires.rest;
  front = ([], sym (append-nil c.args.rest.items));
  told = λ k s low got. absurd (past_end c.args.rest.items k s got low);
}

pub absorb-requires-clause-seat : goal.absorb-requires-clause-seat
absorb-requires-clause-seat g c =
    let S = SeatState g.row.T-Entry.Denot g.row.T-Fixed.Denot in
    let new = c.pop.new.self.items in
    let split = c.pop.ensures.items ∙ ap (λ (o : Option S). new ++ option_to_list o) c.in-Some.is in
    let p = popped c.args.line.now c.loop-seat.rest.items new c.in-Some.seat split c.loop-seat.invariant.seats_are in
    (p.1, p.2)

pub loop-seat-preserved : goal.loop-seat-preserved
loop-seat-preserved g c =
    let S = SeatState g.row.T-Entry.Denot g.row.T-Fixed.Denot in
    let V = View g.row.T-Entry.Denot g.row.T-Fixed.Denot in
    let new = c.pop.new.self.items in
    let s = c.in-Some.seat in
    let i = c.loop-seat.invariant in
    let all = c.args.rest.items in
    let before = c.loop-seat.first.me.0 in
    let split = c.pop.ensures.items ∙ ap (λ (o : Option S). new ++ option_to_list o) c.in-Some.is in
    let p = popped c.args.line.now c.loop-seat.rest.items new s split i.seats_are in
    let len : length c.loop-seat.rest.items ≡ length new + 1 = ap length split ∙ length-append new (s ∷ []) in
    let e = ap (λ (m : Mine g.T.Kept.maker g.T.Kept.history g.T.Kept.fixed). m.0) c.absorb.ensures.told in
    let split' = i.front.1 ∙ ap (λ (l : List S). l ++ i.front.0) split in
    let front = split' ∙ append_assoc new (s ∷ []) i.front.0 in
    let last = ap (λ (l : List S). slice_get l (length new)) split'
    ∙ got_before (new ++ s ∷ []) i.front.0 (length new) s (got_last new s) in
    let only_joined : before ≡ record c.args.first.now.me.0 { joined = before.joined } = i.view_is in
    record {
      same_table = c.absorb.ensures.same ∙ i.same_table;
      view_is = e ∙ (ap (λ (v : V). with_facts v (facts_of_seat s)) only_joined
          ∙ ap (λ (l : List (Facts g.row.T-Entry.Denot)). record c.args.first.now.me.0 { joined = l })
          (sym (ap (λ (v : V). v.joined) e)));
      seats_are = p.0;
      front = (s ∷ [] ++ i.front.0, front);
      told = ToldFrom-more before c.absorb.new.first.me.0 new all s e
          (λ k t z got. one_value (sym got ∙ (ap (slice_get all) z ∙ last)))
          (subst (λ (z : ℕ). ToldFrom z before all) len i.told);
    }
