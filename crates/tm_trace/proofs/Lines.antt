-- The lines of events, one more.
use Rattle.std.proofs.Common.{◌≡◌, ℕ, ◌+◌, ◌<◌, List, [], ◌∷◌, ◌++◌, refl, sym, ap, ◌∙◌, length, take, get_or}
use Rattle.std.proofs.Common.{append_assoc}
use Rattle.std.proofs.lemmas.List.{take_more, append-nil}
use Rattle.tm_plan_cases.specs.declared.event.Event.{Event}
use Rattle.tm_trace.specs.Text.{event_text, events_text}

pub events-append : (xs ys : List Event) → events_text (xs ++ ys) ≡ events_text xs ++ events_text ys
events-append [] ys = refl
events-append (x ∷ xs) ys =
    ap (λ (t : List ℕ). event_text x ++ t) (events-append xs ys)
    ∙ sym (append_assoc (event_text x) (events_text xs) (events_text ys))

pub events-more : (xs : List Event) (i : ℕ) (e : Event) → i < length xs → e ≡ get_or xs i e
    → events_text (take (i + 1) xs) ≡ events_text (take i xs) ++ event_text e
events-more xs i e l at =
    ap events_text (take_more xs i e l ∙ ap (λ (x : Event). take i xs ++ x ∷ []) (sym at))
    ∙ (events-append (take i xs) (e ∷ [])
    ∙ ap (λ (t : List ℕ). events_text (take i xs) ++ t) (append-nil (event_text e)))
