use Rattle.std.proofs.Common.{◌≡◌, ℕ, List, Some, length, slice_get, sym, ap, ◌∙◌, subst}
use Rattle.tm_turn.specs.Seats.{SeatState, AreAllOutside}
use Rattle.tm_turn.proofs.Places.{written_back}
use Rattle.tm_turn.proofs.Closing.{worked_through}
use Rattle.tm_turn_rows.proofs.visits.come_by.Goals as goal

pub close-visits-requires : goal.close-visits-requires
close-visits-requires g c =
    let S = SeatState ℕ (Unit {0}) in
    let line = c.in_ok-line.line in
    let old = c.in_ok-line.seats.items in
    let new = c.visit_by_threads.new.seats in
    let started = c.in_ok-line.ensures in
    let visited = c.visit_by_threads.ensures in
    let lent = c.as_mut_slice.ensures.value in
    let same : length new ≡ length old = visited.same ∙ ap length lent in
    let each = λ (k : ℕ) (s t : S) (e : slice_get old k ≡ Some s) (e' : slice_get new k ≡ Some t).
    visited.each k s t (ap (λ (l : List S). slice_get l k) lent ∙ e) e' in
    subst (AreAllOutside line) (sym (written_back c.in_ok-line.seats.len new old (c.in_ok-line.seats.ok.0 ∙ sym same)))
    (worked_through line old new (started.seats.0 ∙ sym started.line.1) same started.seats.1 each)
