-- How the reader goes on from event to event.
use Rattle.std.proofs.Common.{◌≡◌, ◌∙◌, ◌+◌, ℕ, suc, refl, sym, ap, List, [], ◌∷◌, ◌++◌}
use Rattle.std.proofs.Common.{Ok, Err}
use Rattle.std.proofs.Common.{append_assoc, append-nil}
use Rattle.tm_plan_cases.specs.declared.event.Event.{Event}
use Rattle.tm_trace.specs.declared.trace.TraceFault.{TraceFault}
use Rattle.tm_trace.specs.Reading.{Reading, events_from, next_event, more, then_more}

-- events that were read before others
abbrev pub behind : List Event → Reading (List Event) → Reading (List Event)
behind es (Ok p) = Ok (es ++ p.0, p.1)
behind es (Err e) = Err e

pub behind_none : (r : Reading (List Event)) → r ≡ behind [] r
behind_none (Ok p) = refl
behind_none (Err e) = refl

behind_more : (es : List Event) (e : Event) (r : Reading (List Event)) → behind es (more e r) ≡ behind (es ++ e ∷ []) r
behind_more es e (Ok p) = ap (λ (t : List Event). Ok (t, p.1)) (sym (append_assoc es (e ∷ []) p.0))
behind_more es e (Err d) = refl

-- one event more
pub goes_on : (whole : Reading (List Event)) (es : List Event) (left less n line after : ℕ) (bs : List ℕ) (e : Event)
    (rest : List ℕ) → whole ≡ behind es (events_from left n line bs) → left ≡ suc less → line + 1 ≡ after
    → next_event n line bs ≡ Ok (e, rest)
    → whole ≡ behind (es ++ e ∷ []) (events_from less n after rest)
unfolding events_from
goes_on whole es left less n line after bs e rest so_far count one next =
    so_far
    ∙ (ap (λ (k : ℕ). behind es (events_from k n line bs)) count
    ∙ (ap (λ r. behind es (then_more (events_from less n (line + 1)) r)) next
    ∙ (behind_more es e (events_from less n (line + 1) rest)
    ∙ ap (λ (k : ℕ). behind (es ++ e ∷ []) (events_from less n k rest)) one)))

-- an event that isn't read
pub fails : (whole : Reading (List Event)) (es : List Event) (left less n line : ℕ) (bs : List ℕ) (d : TraceFault)
    → whole ≡ behind es (events_from left n line bs) → left ≡ suc less → next_event n line bs ≡ Err d → whole ≡ Err d
unfolding events_from
fails whole es left less n line bs d so_far count next =
    so_far
    ∙ (ap (λ (k : ℕ). behind es (events_from k n line bs)) count
    ∙ ap (λ r. behind es (then_more (events_from less n (line + 1)) r)) next)

-- no event is left
pub ends : (whole : Reading (List Event)) (es : List Event) (left n line : ℕ) (bs : List ℕ)
    → whole ≡ behind es (events_from left n line bs) → left ≡ 0 → whole ≡ Ok (es, bs)
unfolding events_from
ends whole es left n line bs so_far none =
    so_far
    ∙ (ap (λ (k : ℕ). behind es (events_from k n line bs)) none
    ∙ ap (λ (t : List Event). Ok (t, bs)) (append-nil es))
