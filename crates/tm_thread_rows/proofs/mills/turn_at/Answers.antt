use Rattle.std.proofs.Common.{length, refl, arith}
use Rattle.std.proofs.lemmas.Option.{slice_get_read}
use Rattle.tm_thread_rows.proofs.Seats.{all_set}
use Rattle.tm_thread_rows.proofs.mills.turn_at.Goals as goal

pub returns : goal.returns
returns g c =
    all_set c.args.mill.now c.args.seats.now.items c.args.place c.index_mut.result.now c.turn.new.seat
    (slice_get_read c.args.seats.now.items (length c.args.seats.now.items) c.args.place c.index_mut.result.now refl
    (omega (arith, c.len.ensures, c.if-place-len.false)) c.index_mut.ensures.value) c.turn.ensures.stays.0
    c.turn.ensures.stays.1 c.requires
