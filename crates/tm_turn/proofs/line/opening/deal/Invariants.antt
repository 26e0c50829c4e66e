use Rattle.std.proofs.Common.{◌≡◌, ◌+◌, length, []}
use Rattle.tm_turn.specs.Views.{fresh_view}
use Rattle.tm_turn.specs.Seats.{AreNew}
use Rattle.tm_turn.proofs.line.opening.deal.Given as goal

abbrev pub invariant-loop-number : goal.invariant-loop-number
invariant-loop-number g l = record {
  same_table : l.first.table_id ≡ l.line.table;
  view_is : l.first.me ≡ (fresh_view l.line.fixed 0 l.seats l.number, []);
  count : l.number ≡ length l.rest.items + 1;
  room : l.rest.cap ≡ l.initial.rest.cap;
  seats_are : AreNew l.line 1 l.rest.items;
}
