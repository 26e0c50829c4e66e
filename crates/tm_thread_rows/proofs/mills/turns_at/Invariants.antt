use Rattle.tm_harts.specs.Mills.{AreAllOf}
use Rattle.tm_thread_rows.proofs.mills.turns_at.Given as goal

abbrev pub invariant-loop-steps : goal.invariant-loop-steps
invariant-loop-steps g l = AreAllOf l.mill l.seats.items
