-- A recorded run, one event more.
use Rattle.std.proofs.Common.{◌≡◌, ◌≢◌, ℕ, suc, ◌+◌, ◌^◌, ◌<◌, ◌≤◌, List, [], ◌∷◌, ◌++◌, Option, None, Some, ◌⊎◌, inl}
use Rattle.std.proofs.Common.{inr, refl, sym, ap, ◌∙◌, subst, length, take, drop, arith}
use Rattle.std.specs.Prelude.{reverse}
use Rattle.std.proofs.lemmas.Bool.{cases_eq}
use Rattle.std.proofs.lemmas.List.{reverse-append, length-reverse, take-append-drop}
use Rattle.tm_table.specs.declared.state.Access.{Access}
use Rattle.tm_table.specs.State.{Hart}
use Rattle.tm_plan_cases.specs.declared.program.Program.{Program}
use Rattle.tm_plan_cases.specs.declared.event.Event.{Event}
use Rattle.tm_plan_cases.specs.Shaped.{IsProgram}
use Rattle.tm_world.specs.Place.{harts}
use Rattle.tm_world.specs.Run.{Step, Run, Always, own, hart_of, access_of, now, first_state, Reads}
use Rattle.tm_world.specs.Kinds.{Follows, Path, Paths, Plain, Legal, Met, plain_owed, legal_owed, phase_of}
use Rattle.tm_world.proofs.Prefix.{Path-earlier, Plain-earlier, Legal-earlier}
use Rattle.tm_legal.proofs.Own.{own-here, own-there}
use Rattle.tm_world.specs.Replay.{opening, state_after}
use Rattle.tm_guest.proofs.Opening.{is-opening}
use Rattle.tm_judge.specs.Recorded.{step_of, recorded, steps_of, opened, run_of}
use Rattle.tm_judge.specs.Causes.{Question, OfPath, OfPlain, OfLegal, IsOne, Goes}

-- ---- the steps

pub steps-more : (events : List Event) (e : Event)
    → steps_of (events ++ e ∷ []) ≡ step_of (steps_of events) e ∷ steps_of events
unfolding steps_of
steps-more events e = ap recorded (reverse-append events (e ∷ []))

length-recorded : (events : List Event) → length (recorded events) ≡ length events
length-recorded [] = refl
length-recorded (e ∷ past) = let more = length-recorded past in omega arith

pub length-steps : (events : List Event) → length (steps_of events) ≡ length events
unfolding steps_of
length-steps events = length-recorded (reverse events) ∙ length-reverse events

-- later steps stand before the earlier ones
recorded-later : (later past : List Event) → (more : List Step) × (recorded (later ++ past) ≡ more ++ recorded past)
recorded-later [] past = ([], refl)
recorded-later (e ∷ later) past =
    let (more, is) = recorded-later later past in (
      step_of (recorded (later ++ past)) e ∷ more,
      ap (λ (steps : List Step). step_of (recorded (later ++ past)) e ∷ steps) is,
    )

steps-later : (events rest : List Event) → (more : List Step) × (steps_of (events ++ rest) ≡ more ++ steps_of events)
unfolding steps_of
steps-later events rest =
    let (more, is) = recorded-later (reverse rest) (reverse events) in
    (more, ap recorded (reverse-append events rest) ∙ is)

-- ---- kinds of run

pub one-empty : (q : Question) (p : Program) → IsProgram p → IsOne q p (opened [])
one-empty q p shaped = by q
  where
    paths : Paths p (opened [])
    paths = record { opening = λ h l. is-opening h (omega (arith, shaped.cases.harts)); only = tt; each = λ h l. tt }

    by : (q : Question) → IsOne q p (opened [])
    by OfPath = paths
    by OfPlain = record { paths = paths; reads = tt }
    by OfLegal = record { paths = paths; met = tt; reads = tt }

module _ (p : Program) (past : List Step) (e : Event) where
  paths-more : e.hart < harts p → Follows p e.hart (state_after past e.hart) (step_of past e) → Paths p (opened past)
      → Paths p (opened (step_of past e ∷ past))
  paths-more l f paths = record {
    opening = paths.opening;
    only = (l, paths.only);
    each = λ g m. by g m (cases_eq g e.hart);
  }
    where
      by : (g : ℕ) → g < harts p → (g ≡ e.hart) ⊎ (g ≡ e.hart → ⊥)
          → Path p g (first_state (opening g)) (own g (step_of past e ∷ past))
      by g m (inl q) =
          subst (Path p g (first_state (opening g))) (sym (own-here g (step_of past e) past (sym q)))
          (subst (λ (k : ℕ). Follows p k (state_after past k) (step_of past e)) (sym q) f, paths.each g m)
      by g m (inr n) =
          subst (Path p g (first_state (opening g))) (sym (own-there g (step_of past e) past (λ q. n (sym q))))
          (paths.each g m)

  paths-newest : Paths p (opened (step_of past e ∷ past))
      → Follows p e.hart (state_after past e.hart) (step_of past e)
  paths-newest paths =
      let all : Path p e.hart (first_state (opening e.hart)) (step_of past e ∷ own e.hart past) =
      subst (Path p e.hart (first_state (opening e.hart))) (own-here e.hart (step_of past e) past refl)
      (paths.each e.hart paths.only.0) in
      all.0

  -- one event more
  pub one-more : (q : Question) → e.hart < harts p → Goes q p past e → IsOne q p (opened past)
      → IsOne q p (opened (step_of past e ∷ past))
  one-more OfPath l g k = paths-more l g k
  one-more OfPlain l g k = record { paths = paths-more l g.0 k.paths; reads = (g.1, k.reads) }
  one-more OfLegal l g k = record { paths = paths-more l g.0 k.paths; met = (g.1, k.met); reads = (g.2, k.reads) }

  -- and what it asks of the event
  pub one-newest : (q : Question) → IsOne q p (opened (step_of past e ∷ past)) → Goes q p past e
  one-newest OfPath k = paths-newest k
  one-newest OfPlain k = (paths-newest k.paths, k.reads.0)
  one-newest OfLegal k = (paths-newest k.paths, k.met.0, k.reads.0)

-- ---- what was before

one-earlier : (q : Question) (p : Program) (later past : List Step) → IsOne q p (opened (later ++ past))
    → IsOne q p (opened past)
one-earlier OfPath p later past k = Path-earlier p opening later past k
one-earlier OfPlain p later past k = Plain-earlier p opening later past k
one-earlier OfLegal p later past k = Legal-earlier p opening later past k

pub one-before : (q : Question) (p : Program) (events rest : List Event) → IsOne q p (run_of (events ++ rest))
    → IsOne q p (run_of events)
one-before q p events rest k =
    let (more, is) = steps-later events rest in
    one-earlier q p more (steps_of events) (subst (λ (steps : List Step). IsOne q p (opened steps)) is k)

pub one-front : (q : Question) (p : Program) (events : List Event) (n : ℕ) → IsOne q p (run_of events)
    → IsOne q p (run_of (take n events))
one-front q p events n k =
    one-before q p (take n events) (drop n events)
    (subst (λ (xs : List Event). IsOne q p (run_of xs)) (sym (take-append-drop n events)) k)
