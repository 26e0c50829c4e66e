-- The drains that are kept without their harts: the journal has these.
use Rattle.std.proofs.Common.{◌≡◌, ℕ, ◌<◌, List, [], ◌∷◌, ◌++◌, ◌==◌, inl, inr, refl, sym, ap, ap₂, ◌∙◌, subst, arith}
use Rattle.std.proofs.Common.{length, eq-eqb, ne_eqb, eqb-true, length-append}
use Rattle.std.specs.Prelude.{Contains, not, reverse, if◌then◌else◌}
use Rattle.std.specs.List.{AllByRecursion as Each}
use Rattle.std.proofs.lemmas.Bool.{cond-true, cond-false, cases_Bool, and_parts}
use Rattle.std.proofs.lemmas.List.{reverse-append, length-reverse, reverse-reverse}
use Rattle.tm_plan_cases.specs.declared.program.Program.{Program}
use Rattle.tm_plan_cases.specs.declared.event.Event.{Event}
use Rattle.tm_world.specs.Run.{Step, hart_of, access_of}
use Rattle.tm_world.specs.Course.{is_write}
use Rattle.tm_world.specs.Replay.{stepped, replay, steps_of as replayed}
use Rattle.tm_world.proofs.Replaying.{length-steps}
use Rattle.tm_buffered.specs.Moments.{Entry, writes_by, writes_of, waiting, has_drained, steps_of}
use Rattle.tm_buffered.proofs.Entries.{each-at, each-map, contains-those}
use Rattle.tm_buffered.proofs.Drains.{entry, writes-more, writes-same}
use Rattle.tm_buffer.specs.declared.drains.DrainEntry.{DrainEntry}
use Rattle.tm_buffer.specs.Listed.{Drain, Stored, hart_at, named, named_all, with_harts}
use Rattle.tm_buffer.specs.Seen.{moments_of}
use Rattle.tm_buffer.proofs.Trail.{steps-moments}

-- ---- harts of events

at-newest : (e : Event) (past : List Event) (n : ℕ) → length past ≡ n → hart_at (e ∷ past) n ≡ e.hart
at-newest e past n is = cond-true (length past == n) e.hart (hart_at past n) (eq-eqb (length past) n is)

at-older : (e : Event) (past : List Event) (n : ℕ) → n < length past → hart_at (e ∷ past) n ≡ hart_at past n
at-older e past n l = cond-false (length past == n) e.hart (hart_at past n) (ne_eqb (length past) n (λ z. omega arith))

pub replay-long : (p : Program) (es : List Event) → length (replay p [] es) ≡ length es
unfolding replayed
replay-long p es =
    subst (λ (l : List Event). length (replay p [] l) ≡ length l) (reverse-reverse es)
    (length-steps p [] (reverse es) ∙ sym (length-reverse (reverse es)))

-- The hart of a write's event is the write's.
abbrev IsOf : List Event → ℕ → Entry → Type 0
IsOf es h x = (x.number < length es) × (hart_at es x.number ≡ h)

older : (e : Event) (past : List Event) (h : ℕ) (x : Entry) → IsOf past h x → IsOf (e ∷ past) h x
older e past h x is = (let l = is.0 in omega arith, at-older e past x.number is.0 ∙ is.1)

writes-of : (p : Program) (h : ℕ) (es : List Event) → Each (IsOf es h) (writes_of h (replay p [] es))
writes-of p h [] = tt
writes-of p h (e ∷ past) =
    let s : Step = stepped p [] (replay p [] past) e in
    let before = each-map (IsOf past h) (IsOf (e ∷ past) h) (writes_of h (replay p [] past)) (older e past h)
    (writes-of p h past) in
    let long = replay-long p past in
    elim (cases_Bool (writes_by h s)) [
      | inl y ↦
          let hart : hart_of s ≡ h = eqb-true (hart_of s) h (and_parts (hart_of s == h) (is_write (access_of s)) y).0 in
          subst (Each (IsOf (e ∷ past) h)) (sym (writes-more h s (replay p [] past) y)) (
            (omega arith, at-newest e past (length (replay p [] past)) (sym long) ∙ hart),
            before,
          )
      | inr n ↦ subst (Each (IsOf (e ∷ past) h)) (sym (writes-same h s (replay p [] past) n)) before
    ]

pub waiting-of : (p : Program) (events : List Event) (drains : List Drain) (h : ℕ) (x : Entry)
    → Contains (waiting h (moments_of p events drains)) x
    → (x.number < length events) × (hart_at (reverse events) x.number ≡ h)
waiting-of p events drains h x c =
    let list = moments_of p events drains in
    let among : Contains (writes_of h (replay p [] (reverse events))) x =
    subst (λ (steps : List Step). Contains (writes_of h steps) x) (steps-moments p events drains)
    (contains-those (λ e. not (has_drained h e.number list)) (writes_of h (steps_of list)) x c) in
    let is = each-at (IsOf (reverse events) h) (writes_of h (replay p [] (reverse events))) x
    (writes-of p h (reverse events)) among in
    let long = length-reverse events in
    (let l = is.0 in omega arith, is.1)

-- ---- one more event

-- each of these entries is of a write whose event is among so many
abbrev pub AreMade : ℕ → List DrainEntry → Type 0
AreMade n = Each (λ (d : DrainEntry). d.write < n)

named-event : (events : List Event) (e : Event) (d : DrainEntry) → d.write < length events
    → named (events ++ e ∷ []) d ≡ named events d
named-event events e d l =
    let long = length-reverse events in
    ap (λ (h : ℕ). record { after = d.after; hart = h; write = d.write })
    (ap (λ (es : List Event). hart_at es d.write) (reverse-append events (e ∷ []))
    ∙ at-older e (reverse events) d.write (omega arith))

pub named-same : (events : List Event) (e : Event) (entries : List DrainEntry) → AreMade (length events) entries
    → named_all (events ++ e ∷ []) entries ≡ named_all events entries
named-same events e [] made = refl
named-same events e (d ∷ more) made =
    ap₂ (λ (x : Drain) (xs : List Drain). x ∷ xs) (named-event events e d made.0) (named-same events e more made.1)

pub made-event : (events : List Event) (e : Event) (entries : List DrainEntry) → AreMade (length events) entries
    → AreMade (length (events ++ e ∷ [])) entries
made-event events e [] made = tt
made-event events e (d ∷ more) made =
    (let long = length-append events (e ∷ []) in let l = made.0 in omega arith, made-event events e more made.1)

-- ---- one more drain

pub named-long : (events : List Event) (entries : List DrainEntry) → length (named_all events entries) ≡ length entries
named-long events [] = refl
named-long events (d ∷ more) = let ih = named-long events more in omega arith

named-append : (events : List Event) (entries : List DrainEntry) (d : DrainEntry)
    → named_all events (entries ++ d ∷ []) ≡ named_all events entries ++ named events d ∷ []
named-append events [] d = refl
named-append events (x ∷ more) d = ap (λ (xs : List Drain). named events x ∷ xs) (named-append events more d)

pub named-more : (events : List Event) (kept more : Stored) (d : DrainEntry) (h : ℕ)
    → hart_at (reverse events) d.write ≡ h
    → more ≡ record { entries = kept.entries ++ d ∷ []; room = kept.room }
    → with_harts events more ≡ record {
      drains = (with_harts events kept).drains ++ record { after = d.after; hart = h; write = d.write } ∷ [];
      room = kept.room;
    }
named-more events kept more d h hart is =
    ap (with_harts events) is
    ∙ ap (λ (xs : List Drain). record { drains = xs; room = kept.room })
    (named-append events kept.entries d
    ∙ ap (λ (n : ℕ). named_all events kept.entries ++ record { after = d.after; hart = n; write = d.write } ∷ []) hart)

pub made-drain : (n : ℕ) (entries : List DrainEntry) (d : DrainEntry) → AreMade n entries → d.write < n
    → AreMade n (entries ++ d ∷ [])
made-drain n [] d made l = (l, tt)
made-drain n (x ∷ more) d made l = (made.0, made-drain n more d made.1 l)
