use Rattle.std.proofs.Common.{◌≡◌, ◌++◌, List, length}
use Rattle.tm_turn.specs.Seats.{AreOutside, ToldFrom, SeatState}
use Rattle.tm_turn.proofs.line.closing.gather.Given as goal

abbrev pub invariant-loop-seat : goal.invariant-loop-seat
invariant-loop-seat g l = record {
  same_table : l.first.table_id ≡ l.line.table;
  view_is : l.first.me.0 ≡ record l.initial.first.me.0 { joined = l.first.me.0.joined };
  seats_are : AreOutside l.line l.rest.items;
  front : (others : List (SeatState g.row.T-Entry.Denot g.row.T-Fixed.Denot))
      × (l.initial.rest.items ≡ l.rest.items ++ others);
  told : ToldFrom (length l.rest.items) l.first.me.0 l.initial.rest.items;
}

abbrev pub decreases-loop-seat : goal.decreases-loop-seat
decreases-loop-seat g l = goal.left-loop-seat g l
