-- How often one hart has entered its streams, phase by phase.
use Rattle.std.proofs.Common.{◌≡◌, ℕ, zero, suc, ◌+◌, ◌*◌, ◌/◌, ◌<◌, ◌≤◌, List, [], ◌∷◌, Bool, true, false, not, ◌==◌}
use Rattle.std.proofs.Common.{Option, None, Some, ◌⊎◌, inl, inr, refl, sym, ap, ◌∙◌, arith, eq-eqb, ne_eqb, eqb-true}
use Rattle.std.specs.Prelude.{flat_map, if◌then◌else◌}
use Rattle.std.proofs.lemmas.Bool.{and_parts, and_left}
use Rattle.tm_table.specs.State.{Hart}
use Rattle.tm_plan_cases.specs.declared.program.Program.{Program}
use Rattle.tm_base.specs.Lists.{count_from}
use Rattle.tm_world.specs.Lists.{those, first_of}
use Rattle.tm_world.specs.Place.{harts, case_count, passes, start_of, exit_of, inside}
use Rattle.tm_world.specs.Run.{Step, now, first_state, phase}
use Rattle.tm_world.specs.Kinds.{HalfPath}
use Rattle.tm_world.specs.Marks.{Mark, Exit, Enter, End, Halt, Stray, comes_to, arrivals, visited}
use Rattle.tm_world.specs.Course.{KeepsOrder}
use Rattle.tm_world.proofs.Streams.{shaped-stream, stream-of}
use Rattle.tm_runs.proofs.Arrivals.{inside-true}
use Rattle.tm_legal.specs.Tame.{Formed}
use Rattle.tm_legal.proofs.Weights.{weight, weight-append, weight-those, weight-three, weight-arrivals, met-weight}
use Rattle.tm_legal.proofs.Order.{sum-part, none-holds, one-holds}
use Rattle.tm_stays.proofs.Fronts.{exits, enters}
use Rattle.tm_stays.proofs.Turns.{either, exit-arrives, exit-entry, exit-start, exits-phase, at_exit, order-before}
use Rattle.tm_stays.proofs.Turns.{turned, balance, exits-inside, not-at-exit}

-- how many streams the hart has entered, one after another
abbrev pub entered : Program → ℕ → Hart → List Step → ℕ
entered p h first own = weight enters (visited p h first own)

-- the streams that a step enters
abbrev pub enters_now : Program → ℕ → Hart → List Step → Step → ℕ
enters_now p h first past s = weight enters (arrivals p h (now first past).pc s.after.pc)

pub entered-more : (p : Program) (h : ℕ) (first : Hart) (past : List Step) (s : Step) → entered p h first (s ∷ past)
    ≡ entered p h first past + enters_now p h first past s
entered-more p h first past s =
    weight-append enters (visited p h first past) (arrivals p h (now first past).pc s.after.pc)

-- ---- a step that enters no stream

enters-none : (met : Mark → Bool) (n a : ℕ) → ((d : ℕ) → a ≤ d → d < a + n → met (Enter d) ≡ false)
    → weight enters (those met (flat_map (λ c. Enter c ∷ End c ∷ Stray c ∷ []) (count_from a n))) ≡ 0
enters-none met zero a f = refl
enters-none met (suc n) a f =
    let w = weight-three enters met a (flat_map (λ c. Enter c ∷ End c ∷ Stray c ∷ []) (count_from (suc a) n)) in
    let b = enters-none met n (suc a) (λ d l m. f d (omega arith) (omega arith)) in
    let x : met-weight enters met (Enter a) ≡ 0 =
    ap (λ (t : Bool). if t then 1 else 0) (f a (omega arith) (omega arith)) in
    let y = either (met (End a)) in
    let z = either (met (Stray a)) in
    omega arith

no-entry : (p : Program) (h from to : ℕ) → ((d : ℕ) → d < case_count p → comes_to p h (Enter d) from to ≡ false)
    → weight enters (arrivals p h from to) ≡ 0
no-entry p h from to f =
    let met = λ (m : Mark). comes_to p h m from to in
    let ms = flat_map (λ c. Enter c ∷ End c ∷ Stray c ∷ []) (count_from 0 (case_count p)) in
    let a = weight-those enters met Exit (Halt ∷ ms) in
    let b = weight-those enters met Halt ms in
    let c = either (met Exit) in
    let d = either (met Halt) in
    let e = enters-none met (case_count p) 0 (λ c _ l. f c (omega arith)) in
    omega arith

-- a step enters a stream, or none
pub some-entry : (p : Program) (h from to : ℕ) → ((d : ℕ) × (d < case_count p)
    × (comes_to p h (Enter d) from to ≡ true)) ⊎ (weight enters (arrivals p h from to) ≡ 0)
some-entry p h from to = by (first_of (λ d. comes_to p h (Enter d) from to) (count_from 0 (case_count p))) refl
  where
    by : (o : Option ℕ) → first_of (λ d. comes_to p h (Enter d) from to) (count_from 0 (case_count p)) ≡ o
        → ((d : ℕ) × (d < case_count p) × (comes_to p h (Enter d) from to ≡ true))
        ⊎ (weight enters (arrivals p h from to) ≡ 0)
    by (Some d) e = let q = one-holds (λ d. comes_to p h (Enter d) from to) (case_count p) 0 d e in
        inl (d, omega (arith, q.1), q.0)
    by None e = inr (no-entry p h from to (λ d l. none-holds (λ d. comes_to p h (Enter d) from to) (case_count p) 0 d e
        (omega arith) (omega arith)))

-- entering a stream counts
pub entry-counts : (p : Program) (h from to c : ℕ) → c < case_count p → comes_to p h (Enter c) from to ≡ true
    → 1 ≤ weight enters (arrivals p h from to)
entry-counts p h from to c l e =
    let met = λ (m : Mark). comes_to p h m from to in
    let a = weight-arrivals enters p h from to (λ d. met-weight enters met (Enter d)) (λ d. omega arith) in
    let b = sum-part (λ d. met-weight enters met (Enter d)) (case_count p) 0 c (omega arith) (omega arith) in
    let one : met-weight enters met (Enter c) ≡ 1 = ap (λ (t : Bool). if t then 1 else 0) e in
    omega arith

module _ (p : Program) (formed : Formed p) (h : ℕ) (number : h < harts p) (x : List ℕ) where
  -- At the exit mark the hart has entered as many streams as it has come to it, by twos.
  pub at-exit : (own : List Step) → KeepsOrder p h (first_state x) own → (now (first_state x) own).pc ≡ exit_of p h
      → 2 * entered p h (first_state x) own ≤ weight exits (visited p h (first_state x) own)
  at-exit [] k e = absurd (exit-entry p formed h number e)
  at-exit (s ∷ past) k e =
      let from = (now (first_state x) past).pc in
      let t = (turned p formed h number x past (order-before p h (first_state x) s past k)).lower in
      let a = weight-append exits (visited p h (first_state x) past) (arrivals p h from s.after.pc) in
      let b = exit-arrives p h from s.after.pc in
      let c = ap at_exit (eq-eqb s.after.pc (exit_of p h) e) in
      let f = entered-more p h (first_state x) past s in
      let none = no-entry p h from s.after.pc (λ d few.
      and_left (s.after.pc == start_of p h d) (not (inside p h d from))
      (ne_eqb s.after.pc (start_of p h d) (λ z. exit-start p formed h d number few (sym e ∙ z)))) in
      omega arith

  -- Inside a stream it is in the run phase of pass i of all passes, and has entered as many streams as there were run
  -- phases.
  pub inside-entered : (s : Step) (past : List Step) → HalfPath p h (first_state x) (s ∷ past)
      → KeepsOrder p h (first_state x) (s ∷ past) → (c : ℕ) → c < case_count p → inside p h c s.after.pc ≡ true
      → (i : ℕ) × (phase (exit_of p h) (s ∷ past) ≡ 2 * i + 1) × (entered p h (first_state x) (s ∷ past) ≡ suc i)
      × (i / passes p ≡ c)
  inside-entered s past path k c few i =
      let t = (turned p formed h number x (s ∷ past) k).entered c
      ((balance p formed h number x (s ∷ past) path k c few).within i) in
      let e = exits-phase p formed h number x (s ∷ past) path in
      let off = ap at_exit (ne_eqb s.after.pc (exit_of p h) (not-at-exit p formed h number x s past path k c few i)) in
      let (j, n, _, d) = exits-inside p formed h number x (s ∷ past) path k c few i in
      (j, omega arith, omega arith, ap (λ (z : ℕ). z / passes p) (let z : j ≡ 0 + j = omega arith in z) ∙ d)

  -- the phase of a step at the exit mark
  pub leaves-phase : (own : List Step) → HalfPath p h (first_state x) own → (now (first_state x) own).pc ≡ exit_of p h
      → weight exits (visited p h (first_state x) own) ≡ phase (exit_of p h) own + 1
  leaves-phase own path e =
      let a = exits-phase p formed h number x own path in
      let b = ap at_exit (eq-eqb (now (first_state x) own).pc (exit_of p h) e) in
      omega arith

-- who enters a stream is inside it
pub started : (p : Program) → Formed p → (h : ℕ) → h < harts p → (from to c : ℕ) → c < case_count p
    → comes_to p h (Enter c) from to ≡ true → inside p h c to ≡ true
started p formed h number from to c few e =
    let (stream, is) = stream-of p.cases c h formed.program.cases few number in
    let long = formed.laid.long h c stream number is in
    let some = (shaped-stream p.cases c h stream formed.program.cases is).some in
    let start : to ≡ start_of p h c =
    eqb-true to (start_of p h c) (and_parts (to == start_of p h c) (not (inside p h c from)) e).0 in
    inside-true p h c to (omega arith) (omega arith)
