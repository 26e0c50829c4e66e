use Rattle.tm_harts.specs.Mills.{AreAllOf}
use Rattle.tm_thread_rows.proofs.mills.alone.Given as goal

abbrev pub invariant-loop : goal.invariant-loop
invariant-loop g l = AreAllOf l.mill l.seats.items
