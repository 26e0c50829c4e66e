use Rattle.std.proofs.Common.{length, refl, ap, arith}
use Rattle.std.proofs.lemmas.Option.{slice_get_read}
use Rattle.tm_plan_cases.specs.declared.event.Event.{Event}
use Rattle.tm_turn.specs.Seats.{SeatState}
use Rattle.tm_harts.specs.declared.held.Setup.{Setup}
use Rattle.tm_thread_rows.proofs.Seats.{all_set}
use Rattle.tm_thread_rows.proofs.mills.told_at.Goals as goal

pub returns : goal.returns
returns c =
    all_set c.args.mill.now c.args.seats.now.items c.args.place c.index_mut.result.now c.progress.new.seat
    (slice_get_read c.args.seats.now.items (length c.args.seats.now.items) c.args.place c.index_mut.result.now refl
    (omega (arith, c.len.ensures, c.if-place-len.false)) c.index_mut.ensures.value) c.progress.ensures.stays
    (ap (λ (x : SeatState Event Setup). x.number) c.progress.ensures.seat) c.requires
