-- Answers, one event more.
use Rattle.std.proofs.Common.{◌≡◌, ◌≢◌, ℕ, zero, suc, ◌+◌, ◌<◌, ◌≤◌, List, [], ◌∷◌, ◌++◌, Option, None, Some, refl}
use Rattle.std.proofs.Common.{sym, ap, ◌∙◌, subst, length, take, drop, get_or, arith, length-append}
use Rattle.std.specs.Prelude.{slice_get, MatchOption, IfSome}
use Rattle.std.proofs.lemmas.List.{take-append-drop, take-append-le, take_at, take_all, take_more, length-take-le}
use Rattle.std.proofs.lemmas.Option.{slice_get_within}
use Rattle.tm_table.specs.declared.state.Access.{Access}
use Rattle.tm_table.specs.declared.state.Access.TheVariants.{Quiet, Read, Write}
use Rattle.tm_plan_cases.specs.declared.program.Program.{Program}
use Rattle.tm_plan_cases.specs.declared.event.Event.{Event}
use Rattle.tm_world.specs.Place.{harts, byte_of}
use Rattle.tm_world.specs.Run.{Step, Reads}
use Rattle.tm_world.specs.Kinds.{Met, plain_owed, legal_owed, phase_of}
use Rattle.tm_world.specs.Replay.{state_after}
use Rattle.tm_judge.specs.declared.answers.Why.{Why}
use Rattle.tm_judge.specs.declared.answers.Why.TheVariants.{AfterHalt, Pc, Word, Stuck, Early, Byte}
use Rattle.tm_judge.specs.declared.answers.Why.TheVariants as whys
use Rattle.tm_judge.specs.declared.answers.Answer.{Answer}
use Rattle.tm_judge.specs.declared.answers.Answer.TheVariants.{Yes, No}
use Rattle.tm_judge.specs.Recorded.{step_of, steps_of, opened, run_of}
use Rattle.tm_judge.specs.Causes.{Question, OfPath, OfPlain, OfLegal, IsOne, Goes, Holds, IsFirst, IsFirstStray, Strays}
use Rattle.tm_judge.specs.Causes.{ReadsWrong, IsMissing, Found, rank, owed}
use Rattle.tm_judge.specs.Judged.{Answered, Breaks, answer_with}
use Rattle.tm_judge.proofs.Straying.{no-follow}
use Rattle.tm_judge.proofs.Recording.{steps-more, one-more, one-newest, one-before, one-front}

-- ---- a cause breaks

reads-not : (owed : ℕ → Option ℕ) (a : Access) (addr held : ℕ) → ReadsWrong owed a addr held → ¬ Reads owed a
reads-not owed Quiet addr held w r = w
reads-not owed (Write from width value) addr held w r = w
reads-not owed (Read from width value) addr held w r =
    let (i, l, at, is, ne, before) = w in
    let here : IfSome (owed addr) (λ b. byte_of value i ≡ b) =
    subst (λ (b : ℕ). IfSome (owed b) (λ x. byte_of value i ≡ x)) (sym at) (r i l) in
    ne (subst (λ (o : Option ℕ). IfSome o (λ b. byte_of value i ≡ b)) is here)

goes-follows : (q : Question) (p : Program) (past : List Step) (e : Event) → Goes q p past e → Goes OfPath p past e
goes-follows OfPath p past e g = g
goes-follows OfPlain p past e g = g.0
goes-follows OfLegal p past e g = g.0

none-goes : (q : Question) (p : Program) (past : List Step) (e : Event) (why : Why) → Holds q p past e why
    → ¬ Goes q p past e
none-goes q p past e AfterHalt h g =
    no-follow p (state_after past e.hart) (step_of past e) AfterHalt h (goes-follows q p past e g)
none-goes q p past e (Pc x) h g =
    no-follow p (state_after past e.hart) (step_of past e) (Pc x) h (goes-follows q p past e g)
none-goes q p past e (Word x) h g =
    no-follow p (state_after past e.hart) (step_of past e) (Word x) h (goes-follows q p past e g)
none-goes q p past e Stuck h g =
    no-follow p (state_after past e.hart) (step_of past e) Stuck h (goes-follows q p past e g)
none-goes q p past e whys.Step h g =
    no-follow p (state_after past e.hart) (step_of past e) whys.Step h (goes-follows q p past e g)
none-goes OfPath p past e (Early k) h g = h
none-goes OfPlain p past e (Early k) h g = h
none-goes OfLegal p past e (Early k) h g =
    let missing = h.0 in
    let met = g.1 k missing.0 missing.1 in
    omega (arith, met, missing.2)
none-goes OfPath p past e (Byte addr held) h g = path e.access h
  where
    path : (a : Access) → ¬ ReadsWrong (λ b. None) a addr held
    path Quiet w = w
    path (Write from width value) w = w
    path (Read from width value) w =
        let (i, l, at, is, ne, before) = w in
        cc
none-goes OfPlain p past e (Byte addr held) h g = reads-not (plain_owed p past) e.access addr held h g.1
none-goes OfLegal p past e (Byte addr held) h g =
    reads-not (legal_owed p past e.hart (phase_of p past e.hart)) e.access addr held h g.2

-- ---- lists

get-append : (xs ys : List Event) (k : ℕ) (x : Event) → slice_get xs k ≡ Some x → slice_get (xs ++ ys) k ≡ Some x
get-append [] ys k x e = cc
get-append (z ∷ xs) ys zero x e = e
get-append (z ∷ xs) ys (suc k) x e = get-append xs ys k x e

get-end : (xs : List Event) (x : Event) → slice_get (xs ++ x ∷ []) (length xs) ≡ Some x
get-end [] x = refl
get-end (z ∷ xs) x = get-end xs x

-- ---- answers

-- A fault found stays the answer.
pub breaks-more : (q : Question) (p : Program) (events rest : List Event) (place : ℕ) (why : Why)
    → Breaks q p events place why → Breaks q p (events ++ rest) place why
breaks-more q p events rest place why b =
    let inside : place < length events = slice_get_within events place b.event b.stands in
    let front : (n : ℕ) → n ≤ length events → take n (events ++ rest) ≡ take n events =
    λ n l. take-append-le n events rest l in
    record {
      least = λ k l.
          subst (λ (xs : List Event). IsOne q p (run_of xs)) (sym (front (k + 1) (omega arith))) (b.least k l);
      breaks = λ one.
          b.breaks (subst (λ (xs : List Event). IsOne q p (run_of xs)) (front (place + 1) (omega arith)) one);
      whole = λ one. b.whole (one-before q p events rest one);
      event = b.event;
      stands = get-append events rest place b.event b.stands;
      cause = subst (λ (xs : List Event). IsFirst q p (steps_of xs) b.event why) (sym (front place (omega arith)))
          b.cause;
    }

-- Where the events so far are one, a fault of one event more breaks it there.
breaks-here : (q : Question) (p : Program) (events : List Event) (e : Event) (why : Why) → IsOne q p (run_of events)
    → IsFirst q p (steps_of events) e why → Breaks q p (events ++ e ∷ []) (length events) why
breaks-here q p events e why one first =
    let all : take (length events + 1) (events ++ e ∷ []) ≡ events ++ e ∷ [] =
    take_all (length events + 1) (events ++ e ∷ []) (omega (arith, length-append events (e ∷ []))) in
    let not : ¬ IsOne q p (run_of (events ++ e ∷ [])) =
    λ more. none-goes q p (steps_of events) e why first.holds (one-newest p (steps_of events) e q
    (subst (λ (steps : List Step). IsOne q p (opened steps)) (steps-more events e) more)) in
    record {
      least = λ k l.
          subst (λ (xs : List Event). IsOne q p (run_of xs))
          (sym (take-append-le (k + 1) events (e ∷ []) (omega arith))) (one-front q p events (k + 1) one);
      breaks = λ more. not (subst (λ (xs : List Event). IsOne q p (run_of xs)) all more);
      whole = not;
      event = e;
      stands = get-end events e;
      cause = subst (λ (xs : List Event). IsFirst q p (steps_of xs) e why)
          (sym (take_at events (e ∷ []) (length events) refl)) first;
    }

pub answered-more : (q : Question) (p : Program) (events : List Event) (e : Event) (a : Answer) (fault : Option Why)
    → e.hart < harts p → Answered q p events a → Found q p (steps_of events) e fault
    → Answered q p (events ++ e ∷ []) (answer_with a (length events) fault)
answered-more q p events e (No place why) fault l a f = breaks-more q p events (e ∷ []) place why a
answered-more q p events e Yes None l a f =
    subst (λ (steps : List Step). IsOne q p (opened steps)) (sym (steps-more events e))
    (one-more p (steps_of events) e q l f a)
answered-more q p events e Yes (Some why) l a f = breaks-here q p events e why a f

-- ---- a stray breaks each of them

stray-holds : (q : Question) (p : Program) (past : List Step) (e : Event) (w : Why) → rank w ≤ 5
    → Strays p (state_after past e.hart) e w → Holds q p past e w
stray-holds q p past e AfterHalt l h = h
stray-holds q p past e (Pc x) l h = h
stray-holds q p past e (Word x) l h = h
stray-holds q p past e Stuck l h = h
stray-holds q p past e whys.Step l h = h
stray-holds q p past e (Early g) l h = absurd h
stray-holds q p past e (Byte addr held) l h = absurd h

holds-stray : (q : Question) (p : Program) (past : List Step) (e : Event) (w : Why) → rank w ≤ 5
    → Holds q p past e w → Strays p (state_after past e.hart) e w
holds-stray q p past e AfterHalt l h = h
holds-stray q p past e (Pc x) l h = h
holds-stray q p past e (Word x) l h = h
holds-stray q p past e Stuck l h = h
holds-stray q p past e whys.Step l h = h
holds-stray q p past e (Early g) l h = absurd (omega (arith, l))
holds-stray q p past e (Byte addr held) l h = absurd (omega (arith, l))

pub stray-first : (q : Question) (p : Program) (past : List Step) (e : Event) (why : Why)
    → IsFirstStray p (state_after past e.hart) e why → IsFirst q p past e why
stray-first q p past e why s = record {
  holds = stray-holds q p past e why s.early s.holds;
  first = λ w l h.
      let few : rank w ≤ 5 = omega (arith, s.early, l) in
      s.first w l (holds-stray q p past e w few h);
}

-- what follows the table strays nowhere
pub none-stray : (q : Question) (p : Program) (past : List Step) (e : Event) (w : Why) → rank w ≤ 5
    → Goes OfPath p past e → ¬ Holds q p past e w
none-stray q p past e w l g h = no-follow p (state_after past e.hart) (step_of past e) w
    (holds-stray q p past e w l h) g

-- An answer with a fault stays, whatever comes after.
pub answered-rest : (q : Question) (p : Program) (events rest : List Event) (a : Answer) (place : ℕ) (why : Why)
    → Answered q p events (answer_with a place (Some why)) → Answered q p (events ++ rest)
    (answer_with a place (Some why))
answered-rest q p events rest (No before was) place why b = breaks-more q p events rest before was b
answered-rest q p events rest Yes place why b = breaks-more q p events rest place why b
