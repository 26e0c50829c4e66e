use Rattle.std.proofs.Common.{◌≡◌, ℕ, ◌+◌, ◌<◌, ◌≤◌, List, Some, length, take, get_or, sym, ap, ◌∙◌, subst, arith}
use Rattle.std.proofs.lemmas.List.{length-take-le}
use Rattle.tm_table.specs.State.{Hart, hart_of}
use Rattle.tm_plan_cases.specs.declared.event.Event.{Event}
use Rattle.tm_world.specs.Place.{harts, exit_of}
use Rattle.tm_world.specs.Kinds.{Follows}
use Rattle.tm_world.specs.Replay.{state_after}
use Rattle.tm_judge.specs.declared.answers.Answer.{Answer}
use Rattle.tm_judge.specs.declared.answers.Answer.TheVariants.{Yes}
use Rattle.tm_owing.specs.Owed.{Notes}
use Rattle.tm_judge.specs.Recorded.{steps_of}
use Rattle.tm_judge.specs.Causes.{OfPath, OfPlain, OfLegal, IsFirstStray}
use Rattle.tm_judge.specs.Judged.{Answered}
use Rattle.tm_judge.specs.Bench.{AreNoted}
use Rattle.tm_judge.proofs.Recording.{one-empty, length-steps}
use Rattle.tm_judge.proofs.Wrong.{plain-found}
use Rattle.tm_judge.proofs.Seats.{seat-at, seat-room}
use Rattle.tm_judge.proofs.Turning.{event-traced, answer-next, answer-stray, answer-end, goes, path-next, seats-next}
use Rattle.tm_judge.proofs.Turning.{memory-next, owes-next}
use Rattle.tm_judge.proofs.judging.go_over.Goals as goal

pub loop-place-init : goal.loop-place-init
unfolding steps_of
loop-place-init c = record {
  path = one-empty OfPath c.args.program.now c.requires.program;
  plain = one-empty OfPlain c.args.program.now c.requires.program;
  legal = one-empty OfLegal c.args.program.now c.requires.program;
  seats = c.requires.seats;
  memory = c.requires.memory;
  fits = c.requires.fits;
  owes = c.requires.owes;
}

pub index-requires : goal.index-requires
index-requires c =
    let events = c.args.events.now.events in
    let i = c.loop-place.place in
    let l : i < length events = omega (arith, c.loop-place-test.true, c.len-count.ensures) in
    let t = event-traced (harts c.args.program.now) events i c.at-event.result c.requires.trace l c.at-event.ensures in
    omega (arith, t.hart, c.loop-place.invariant.seats.count, c.loop-place.seats.ok.0)

pub follow-requires-clause-hart : goal.follow-requires-clause-hart
follow-requires-clause-hart c =
    let events = c.args.events.now.events in
    let i = c.loop-place.place in
    let l : i < length events = omega (arith, c.loop-place-test.true, c.len-count.ensures) in
    (event-traced (harts c.args.program.now) events i c.at-event.result c.requires.trace l c.at-event.ensures).hart

pub follow-requires-clause-access : goal.follow-requires-clause-access
follow-requires-clause-access c =
    let events = c.args.events.now.events in
    let i = c.loop-place.place in
    let l : i < length events = omega (arith, c.loop-place-test.true, c.len-count.ensures) in
    (event-traced (harts c.args.program.now) events i c.at-event.result c.requires.trace l c.at-event.ensures).access

pub returns-in-Err : goal.returns-in-Err
returns-in-Err c =
    let p = c.args.program.now in
    let events = c.args.events.now.events in
    let i = c.loop-place.place in
    let e = c.at-event.result in
    let l : i < length events = omega (arith, c.loop-place-test.true, c.len-count.ensures) in
    let t = event-traced (harts p) events i e c.requires.trace l c.at-event.ensures in
    let known = c.loop-place.invariant in
    let past = steps_of (take i events) in
    let seat = seat-at p past c.loop-place.seats.items e.hart c.index.result.now known.seats t.hart c.index.ensures in
    let stray =
    subst (λ (h : Hart). IsFirstStray p h e c.in-Err.why) seat.state c.in-Err.ensures.strays in
    record {
      path = subst (Answered OfPath p events) (sym c.stopped.ensures.path)
          (answer-stray p events i e l c.at-event.ensures OfPath Yes c.in-Err.why t.hart known.path stray);
      plain = subst (Answered OfPlain p events) (sym c.stopped.ensures.plain)
          (answer-stray p events i e l c.at-event.ensures OfPlain c.loop-place.plain c.in-Err.why t.hart known.plain
          stray);
      legal = subst (Answered OfLegal p events) (sym c.stopped.ensures.legal)
          (answer-stray p events i e l c.at-event.ensures OfLegal c.loop-place.legal c.in-Err.why t.hart known.legal
          stray);
    }

pub bounds-as_slice-event : goal.bounds-as_slice-event
bounds-as_slice-event c =
    let events = c.args.events.now.events in
    let i = c.loop-place.place in
    let l : i < length events = omega (arith, c.loop-place-test.true, c.len-count.ensures) in
    let t = event-traced (harts c.args.program.now) events i c.at-event.result c.requires.trace l c.at-event.ensures in
    omega (arith, t.hart, c.requires.program.exits, ap length c.as_slice.ensures)

pub note-requires-clause-hart : goal.note-requires-clause-hart
note-requires-clause-hart c =
    let events = c.args.events.now.events in
    let i = c.loop-place.place in
    let l : i < length events = omega (arith, c.loop-place-test.true, c.len-count.ensures) in
    let t = event-traced (harts c.args.program.now) events i c.at-event.result c.requires.trace l c.at-event.ensures in
    omega (arith, t.hart, c.loop-place.invariant.seats.count)

pub note-requires-clause-few : goal.note-requires-clause-few
note-requires-clause-few c =
    let events = c.args.events.now.events in
    let i = c.loop-place.place in
    let l : i < length events = omega (arith, c.loop-place-test.true, c.len-count.ensures) in
    let t = event-traced (harts c.args.program.now) events i c.at-event.result c.requires.trace l c.at-event.ensures in
    omega (arith, t.hart, c.requires.trace.harts)

pub note-requires-clause-room : goal.note-requires-clause-room
note-requires-clause-room c = λ d.
    let p = c.args.program.now in
    let events = c.args.events.now.events in
    let i = c.loop-place.place in
    let l : i < length events = omega (arith, c.loop-place-test.true, c.len-count.ensures) in
    let t = event-traced (harts p) events i c.at-event.result c.requires.trace l c.at-event.ensures in
    let past = steps_of (take i events) in
    let long : length past ≡ i = length-steps (take i events) ∙ length-take-le i events (omega arith) in
    seat-room p past c.loop-place.seats.items c.at-event.result.hart d c.loop-place.invariant.seats t.hart
    (omega (arith, long, l, c.requires.trace.few))

pub unlawful-requires-clause-count : goal.unlawful-requires-clause-count
unlawful-requires-clause-count c = c.loop-place.invariant.seats.count

pub unlawful-requires-clause-fits : goal.unlawful-requires-clause-fits
unlawful-requires-clause-fits c = c.loop-place.invariant.fits

pub unlawful-requires-clause-hart : goal.unlawful-requires-clause-hart
unlawful-requires-clause-hart c =
    let events = c.args.events.now.events in
    let i = c.loop-place.place in
    let l : i < length events = omega (arith, c.loop-place-test.true, c.len-count.ensures) in
    (event-traced (harts c.args.program.now) events i c.at-event.result c.requires.trace l c.at-event.ensures).hart

pub loop-place-preserved : goal.loop-place-preserved
loop-place-preserved c =
    let p = c.args.program.now in
    let events = c.args.events.now.events in
    let i = c.loop-place.place in
    let e = c.at-event.result in
    let at = c.at-event.ensures in
    let l : i < length events = omega (arith, c.loop-place-test.true, c.len-count.ensures) in
    let t = event-traced (harts p) events i e c.requires.trace l at in
    let known = c.loop-place.invariant in
    let past = steps_of (take i events) in
    let next = hart_of c.in-Ok.next in
    let seat = seat-at p past c.loop-place.seats.items e.hart c.index.result.now known.seats t.hart c.index.ensures in
    let f : Follows p e.hart (state_after past e.hart) (record { event = e; after = next }) =
    subst (λ (h : Hart). Follows p e.hart h (record { event = e; after = next })) seat.state c.in-Ok.ensures.follows in
    let noted : AreNoted (exit_of p e.hart) e next c.loop-place.seats.items c.note.new.seats.items =
    subst (λ (exits : List ℕ). AreNoted (get_or exits e.hart 0) e next c.loop-place.seats.items c.note.new.seats.items)
    c.as_slice.ensures c.note.ensures in
    record {
      path = path-next p events i e l at next f t.hart known.path;
      plain = subst (Answered OfPlain p (take (i + 1) events)) (sym c.answer_on-plain.ensures)
          (answer-next p events i e l at OfPlain c.loop-place.plain c.wrong_byte.result t.hart known.plain
          (plain-found p past c.loop-place.ram e c.wrong_byte.result known.memory (goes p events i e l at next f)
          c.wrong_byte.ensures));
      legal = subst (Answered OfLegal p (take (i + 1) events)) (sym c.answer_on-legal.ensures)
          (answer-next p events i e l at OfLegal c.loop-place.legal c.unlawful.result t.hart known.legal
          (c.unlawful.ensures past known.seats known.owes seat.exits (goes p events i e l at next f)));
      fits = c.in_ok-note.ensures.fits;
      owes = owes-next p events i e l at next f c.loop-place.owing.last.items c.note-in-loop-place.new.self.last.items
          c.loop-place.owing.marks.items c.note-in-loop-place.new.self.marks.items t.hart
          (subst (λ (q : ℕ). Notes p e.hart q e.access c.loop-place.owing.last.items
          c.note-in-loop-place.new.self.last.items
          c.loop-place.owing.marks.items c.note-in-loop-place.new.self.marks.items) seat.exits
          c.in_ok-note.ensures.notes)
          known.owes;
      seats = seats-next p events i e l at next f c.loop-place.seats.items c.note.new.seats.items t.hart noted
          known.seats;
      memory = memory-next p events i e l at next f c.loop-place.ram c.write_for.new.ram c.write_for.ensures
          known.memory;
    }
