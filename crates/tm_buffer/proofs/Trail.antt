-- The moments of a journal and its drains, one more at a time.
use Rattle.std.proofs.Common.{◌≡◌, ℕ, suc, ◌<◌, ◌≤◌, List, [], ◌∷◌, ◌++◌, Bool, true, false, ◌==◌, refl, sym, ap, ap₂}
use Rattle.std.proofs.Common.{◌∙◌, subst, length, arith, eq-eqb, ne_eqb, length-append}
use Rattle.std.specs.Prelude.{reverse, if◌then◌else◌}
use Rattle.std.specs.List.{AllByRecursion as Each}
use Rattle.std.proofs.lemmas.Bool.{cond-true, cond-false}
use Rattle.std.proofs.lemmas.List.{reverse-append, length-reverse}
use Rattle.tm_plan_cases.specs.declared.program.Program.{Program}
use Rattle.tm_plan_cases.specs.declared.event.Event.{Event}
use Rattle.tm_world.specs.Run.{Step}
use Rattle.tm_world.specs.Replay.{stepped, replay}
use Rattle.tm_buffered.specs.Moments.{Moment, Makes, Drains, steps_of}
use Rattle.tm_buffer.specs.Listed.{Drain}
use Rattle.tm_buffer.specs.Seen.{drained_after, moments_by, moments_of}

-- ---- drains at one place

after-here : (n : ℕ) (d : Drain) (ds : List Drain) → d.after ≡ n
    → drained_after n (d ∷ ds) ≡ Drains d.hart d.write ∷ drained_after n ds
after-here n d ds e = cond-true (d.after == n) (Drains d.hart d.write ∷ drained_after n ds) (drained_after n ds)
    (eq-eqb d.after n e)

after-there : (n : ℕ) (d : Drain) (ds : List Drain) → (d.after ≡ n → ⊥) → drained_after n (d ∷ ds) ≡ drained_after n ds
after-there n d ds e = cond-false (d.after == n) (Drains d.hart d.write ∷ drained_after n ds) (drained_after n ds)
    (ne_eqb d.after n e)

none-later : (n : ℕ) (ds : List Drain) → Each (λ (d : Drain). d.after ≤ n) ds → drained_after (suc n) ds ≡ []
none-later n [] a = refl
none-later n (d ∷ ds) a = after-there (suc n) d ds (λ e. let l = a.0 in omega arith) ∙ none-later n ds a.1

-- drains make no steps
drains-still : (n : ℕ) (ds : List Drain) (rest : List Moment) → steps_of (drained_after n ds ++ rest) ≡ steps_of rest
drains-still n [] rest = refl
drains-still n (d ∷ ds) rest = by (d.after == n) (drains-still n ds rest)
  where
    by : (b : Bool) → steps_of (drained_after n ds ++ rest) ≡ steps_of rest
        → steps_of ((if b then Drains d.hart d.write ∷ drained_after n ds else drained_after n ds) ++ rest)
        ≡ steps_of rest
    by true e = e
    by false e = e

drains-alone : (n : ℕ) (ds : List Drain) → steps_of (drained_after n ds) ≡ []
drains-alone n [] = refl
drains-alone n (d ∷ ds) = by (d.after == n) (drains-alone n ds)
  where
    by : (b : Bool) → steps_of (drained_after n ds) ≡ []
        → steps_of (if b then Drains d.hart d.write ∷ drained_after n ds else drained_after n ds) ≡ []
    by true e = e
    by false e = e

steps-by : (p : Program) (es : List Event) (ds : List Drain) → steps_of (moments_by p es ds) ≡ replay p [] es
steps-by p [] ds = drains-alone 0 ds
steps-by p (e ∷ past) ds =
    drains-still (suc (length past)) ds (Makes (stepped p [] (replay p [] past) e) ∷ moments_by p past ds)
    ∙ ap (λ (l : List Step). stepped p [] (replay p [] past) e ∷ l) (steps-by p past ds)

-- The steps of the moments are those of the journal.
pub steps-moments : (p : Program) (events : List Event) (drains : List Drain)
    → steps_of (moments_of p events drains) ≡ replay p [] (reverse events)
unfolding moments_of
steps-moments p events drains = steps-by p (reverse events) (reverse drains)

-- ---- one more

-- one more event
pub moments-event : (p : Program) (events : List Event) (drains : List Drain) (e : Event)
    → Each (λ (d : Drain). d.after ≤ length events) (reverse drains)
    → moments_of p (events ++ e ∷ []) drains
    ≡ Makes (stepped p [] (replay p [] (reverse events)) e) ∷ moments_of p events drains
unfolding moments_of
moments-event p events drains e early =
    ap (λ (es : List Event). moments_by p es (reverse drains)) (reverse-append events (e ∷ []))
    ∙ ap (λ (l : List Moment). l ++ (Makes (stepped p [] (replay p [] (reverse events)) e)
    ∷ moments_by p (reverse events) (reverse drains)))
    (ap (λ (n : ℕ). drained_after (suc n) (reverse drains)) (length-reverse events)
    ∙ none-later (length events) (reverse drains) early)

later-drain : (p : Program) (es : List Event) (ds : List Drain) (d : Drain) → length es < d.after
    → moments_by p es (d ∷ ds) ≡ moments_by p es ds
later-drain p [] ds d l = after-there 0 d ds (λ e. omega arith)
later-drain p (e ∷ past) ds d l =
    ap₂ (λ (a b : List Moment). a ++ (Makes (stepped p [] (replay p [] past) e) ∷ b))
    (after-there (suc (length past)) d ds (λ e. omega arith)) (later-drain p past ds d (omega arith))

now-drain : (p : Program) (es : List Event) (ds : List Drain) (d : Drain) → d.after ≡ length es
    → moments_by p es (d ∷ ds) ≡ Drains d.hart d.write ∷ moments_by p es ds
now-drain p [] ds d e = after-here 0 d ds e
now-drain p (x ∷ past) ds d e =
    ap₂ (λ (a b : List Moment). a ++ (Makes (stepped p [] (replay p [] past) x) ∷ b))
    (after-here (suc (length past)) d ds e) (later-drain p past ds d (omega arith))

-- one more drain
pub moments-drain : (p : Program) (events : List Event) (drains : List Drain) (d : Drain) → d.after ≡ length events
    → moments_of p events (drains ++ d ∷ []) ≡ Drains d.hart d.write ∷ moments_of p events drains
unfolding moments_of
moments-drain p events drains d e =
    ap (moments_by p (reverse events)) (reverse-append drains (d ∷ []))
    ∙ now-drain p (reverse events) (reverse drains) d (e ∙ sym (length-reverse events))

-- what was early stays early
pub early-event : (events : List Event) (drains : List Drain) (e : Event)
    → Each (λ (d : Drain). d.after ≤ length events) drains
    → Each (λ (d : Drain). d.after ≤ length (events ++ e ∷ [])) drains
early-event events [] e a = tt
early-event events (d ∷ ds) e a =
    (let more = length-append events (e ∷ []) in let l = a.0 in omega arith, early-event events ds e a.1)

pub early-drain : (events : List Event) (drains : List Drain) (d : Drain) → d.after ≡ length events
    → Each (λ (d : Drain). d.after ≤ length events) (reverse drains)
    → Each (λ (d : Drain). d.after ≤ length events) (reverse (drains ++ d ∷ []))
early-drain events drains d e a =
    subst (Each (λ (x : Drain). x.after ≤ length events)) (sym (reverse-append drains (d ∷ []))) (omega arith, a)
