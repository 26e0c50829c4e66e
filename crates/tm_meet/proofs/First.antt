-- Where a hart comes into a stream, shared memory has settled to the case's first bytes: each collector has signalled
-- since it set them.
use Rattle.std.proofs.Common.{◌≡◌, ◌≢◌, ℕ, suc, ◌+◌, ◌*◌, ◌/◌, ◌%◌, ◌<◌, ◌≤◌, List, [], ◌∷◌, Bool, true, false, ◌||◌}
use Rattle.std.proofs.Common.{nat_lt, ◌==◌, Option, None, Some, inl, inr, refl, sym, ap, ◌∙◌, subst, arith, eq-eqb}
use Rattle.std.proofs.Common.{ne_eqb}
use Rattle.std.specs.Prelude.{IsTrue, slice_get, if◌then◌else◌}
use Rattle.std.proofs.lemmas.Bool.{cases_eq, cases_lt, and_from, lt-ltb}
use Rattle.std.proofs.lemmas.Option.{slice_get_within}
use Rattle.tm_table.specs.declared.state.Access.{Access}
use Rattle.tm_table.specs.declared.state.Access.TheVariants.{Write}
use Rattle.tm_table.specs.State.{Hart}
use Rattle.tm_plan_cases.specs.declared.program.Program.{Program}
use Rattle.tm_plan_cases.specs.declared.cases.Case.{Case}
use Rattle.tm_plan_map.specs.Map.{flag_at}
use Rattle.tm_plan_cases.specs.Collected.{is_declared, collector}
use Rattle.tm_base.specs.Lists.{any}
use Rattle.tm_world.specs.Lists.{or_else}
use Rattle.tm_world.specs.Place.{harts, case_count, passes, exit_of}
use Rattle.tm_world.specs.Run.{Step, own, now, first_state, hart_of, pc_of, access_of, phase, in_phase, written}
use Rattle.tm_world.specs.Run.{last_write}
use Rattle.tm_world.specs.Writers.{case_of_phase, wrote, settle, settled}
use Rattle.tm_world.specs.Kinds.{Legal, HalfPath, phase_of, flag_writes}
use Rattle.tm_world.specs.Marks.{Enter, comes_to}
use Rattle.tm_world.specs.Course.{KeepsOrder, signals, this_phase}
use Rattle.tm_world.specs.Whole.{SettlesFirst, first_byte}
use Rattle.tm_world.proofs.Prefix.{earlier, Legal-earlier}
use Rattle.tm_legal.specs.Tame.{Formed}
use Rattle.tm_legal.proofs.Own.{own-here}
use Rattle.tm_legal.proofs.Phases.{phase-other, in_phase-here, in_phase-there}
use Rattle.tm_legal.proofs.Half.{half-path, on-legal}
use Rattle.tm_stays.proofs.Turns.{exits-inside, exits-phase, not-at-exit, at_exit}
use Rattle.tm_memory.specs.Meet.{AllMeet}
use Rattle.tm_meet.specs.First.{SetsFirst, SetsBeforeSignal}
use Rattle.tm_stays.specs.First.{EntersBehindExit}
use Rattle.tm_meet.specs.Laws.{FirstBytesSettle, CourseKept}
use Rattle.tm_memory.proofs.Accesses.{still-writes, flag-misses}
use Rattle.tm_meet.proofs.Counts.{BarrierKept, signalled, counted, one, left-signalled}
use Rattle.tm_memory.proofs.Owners.{shared-window, window-flag, collector-less, shared-writers}
use Rattle.tm_meet.proofs.Told.{legal-keeps}
use Rattle.tm_memory.proofs.Meets.{tame, course-meets, writes-right}
use Rattle.tm_meet.proofs.Settling.{wrote-there, wrote-other}
use Rattle.tm_legal.proofs.Formed.{formed-sizes}
use Rattle.tm_stays.proofs.Entries.{started}

-- ---- what a hart that has signalled in a phase has set there

module _ (p : Program) (h c b : ℕ) (case : Case) (is : slice_get p.cases.cases c
    ≡ Some case) (shared : IsTrue (is_declared p.cases b)) (mine : collector p.cases b ≡ h) (apart : (v : ℕ)
    → written (Write (flag_at h) 8 v) b ≡ None) where
  -- In phase q, before a run phase of the case, once it has signalled, it has set b.
  abbrev HasSet : ℕ → List Step → Type 0
  HasSet q own = case_of_phase p (suc q) ≡ Some c → any (signals h) (in_phase (exit_of p h) q own) ≡ true
      → last_write b (in_phase (exit_of p h) q own) ≡ Some (first_byte case.first b)

  -- a step of the phase: the signal, or a still step behind it
  set-here : (first : Hart) (s : Step) (past : List Step) → BarrierKept p h (s ∷ past)
      → SetsBeforeSignal p h first (s ∷ past)
      → HasSet (phase (exit_of p h) past) past → HasSet (phase (exit_of p h) past) (s ∷ past)
  set-here first s past k z before run e =
      let there : in_phase (exit_of p h) (phase (exit_of p h) past) (s ∷ past) ≡ s ∷ this_phase p h past =
      in_phase-here (exit_of p h) (phase (exit_of p h) past) s past refl in
      ap (last_write b) there ∙ by (signals h s) refl (subst (λ (l : List Step). any (signals h) l ≡ true) there e)
    where
      by : (t : Bool) → signals h s ≡ t → (signals h s || any (signals h) (this_phase p h past)) ≡ true
          → or_else (written (access_of s) b) (last_write b (this_phase p h past)) ≡ Some (first_byte case.first b)
      by true y f =
          ap (λ (a : Option ℕ). or_else a (last_write b (this_phase p h past)))
          (ap (λ (a : Access). written a b) (k.0.signal y).value ∙ apart (phase (exit_of p h) past + 1))
          ∙ z.0 y c b case run is shared mine
      by false y f =
          let sig : any (signals h) (this_phase p h past) ≡ true =
          sym (ap (λ (t : Bool). t || any (signals h) (this_phase p h past)) y) ∙ f in
          ap (λ (a : Option ℕ). or_else a (last_write b (this_phase p h past)))
          (still-writes p h b (access_of s) (k.0.still sig)) ∙ before run sig

  has-set : (first : Hart) (q : ℕ) (own : List Step) → BarrierKept p h own → SetsBeforeSignal p h first own
      → HasSet q own
  has-set first q [] k z run e = cc
  has-set first q (s ∷ past) k z run e = elim (cases_eq (phase (exit_of p h) past) q) [
    | inl f ↦ subst (λ (n : ℕ). HasSet n (s ∷ past)) f
        (set-here first s past k z (has-set first (phase (exit_of p h) past) past k.1 z.1)) run e
    | inr n ↦
        let there = in_phase-there (exit_of p h) q s past n in
        ap (last_write b) there ∙ has-set first q past k.1 z.1 run
        (subst (λ (l : List Step). any (signals h) l ≡ true) there e)
  ]

-- Who has written its flag more than n times has signalled in phase n.
signalled-by : (p : Program) (g n : ℕ) (own : List Step) → BarrierKept p g own → n < flag_writes g own
    → any (signals g) (in_phase (exit_of p g) n own) ≡ true
signalled-by p g n own k l = elim (cases_lt n (phase (exit_of p g) own)) [
  | inl m ↦ left-signalled p g n own k m
  | inr m ↦ by m (signalled p g own) refl (counted p g own k)
]
  where
    by : phase (exit_of p g) own ≤ n → (t : Bool) → signalled p g own ≡ t → flag_writes g own
        ≡ phase (exit_of p g) own + one (signalled p g own) → any (signals g) (in_phase (exit_of p g) n own) ≡ true
    by m true y d =
        let two : one (signalled p g own) ≡ 1 = ap one y in
        let e : phase (exit_of p g) own ≡ n = omega arith in
        subst (λ (q : ℕ). any (signals g) (in_phase (exit_of p g) q own) ≡ true) e y
    by m false y d = let z : one (signalled p g own) ≡ 0 = ap one y in absurd (omega arith)

-- ---- the phase in which a stream is entered

run-phase : (p : Program) (i c : ℕ) → i < case_count p * passes p → i / passes p ≡ c → case_of_phase p (suc (2 * i))
    ≡ Some c
run-phase p i c l e =
    let half : suc (2 * i) / 2 ≡ i = omega arith in
    let odd : (suc (2 * i) % 2 == 1) ≡ true = eq-eqb (suc (2 * i) % 2) 1 (omega arith) in
    let few : nat_lt (suc (2 * i) / 2) (case_count p * passes p) ≡ true =
    lt-ltb (suc (2 * i) / 2) (case_count p * passes p) (omega arith) in
    ap (λ (b : Bool). if b then Some (suc (2 * i) / 2 / passes p)
    else None) (and_from (suc (2 * i) % 2 == 1) (nat_lt (suc (2 * i) / 2) (case_count p * passes p)) odd few)
    ∙ ap Some (ap (λ (n : ℕ). n / passes p) half ∙ e)

-- it has then been in the phase of a pass of the case since before the step
entered-in : (p : Program) → Formed p → (h : ℕ) → h < harts p → (x : List ℕ) (s : Step) (past : List Step)
    → HalfPath p h (first_state x) (s ∷ past) → KeepsOrder p h (first_state x) (s ∷ past) → pc_of s ≢ exit_of p h
    → (c : ℕ) → c < case_count p → IsTrue (comes_to p h (Enter c) (now (first_state x) past).pc s.after.pc)
    → (i : ℕ) × (phase (exit_of p h) past ≡ suc (2 * i)) × (phase (exit_of p h) (s ∷ past) ≡ suc (2 * i))
    × (case_of_phase p (suc (2 * i)) ≡ Some c)
entered-in p formed h number x s past path k behind c few came =
    let i-in = started p formed h number (now (first_state x) past).pc s.after.pc c few came in
    let (i, a, l, d) = exits-inside p formed h number x (s ∷ past) path k c few i-in in
    let off = ap at_exit (ne_eqb s.after.pc (exit_of p h) (not-at-exit p formed h number x s past path k c few i-in)) in
    let b = exits-phase p formed h number x (s ∷ past) path in
    let same = phase-other (exit_of p h) s past (ne_eqb (pc_of s) (exit_of p h) behind) in
    let z : 0 + i ≡ i = omega arith in
    (i, omega arith, omega arith, run-phase p i c l (ap (λ (n : ℕ). n / passes p) (sym z) ∙ d))

-- ---- a step of a legal run

module _ (p : Program) (m : AllMeet p) (sets : (h : ℕ) → h < harts p → SetsFirst p h) (o : ℕ → List ℕ) where
  -- each other hart has signalled in the phase before this one, and so has this one
  others-signalled : (s : Step) (past : List Step) → Legal p (earlier o (s ∷ past)) → (n g : ℕ) → g < harts p
      → phase_of p past (hart_of s) ≡ suc n → any (signals g) (in_phase (exit_of p g) n (own g past)) ≡ true
  others-signalled s past legal n g l e =
      let k = legal-keeps p m (earlier o past) (Legal-earlier p o (s ∷ []) past legal) g l in
      elim (cases_eq g (hart_of s)) [
        | inl same ↦ left-signalled p g n (own g past) k (let f : phase_of p past g
            ≡ suc n = subst (λ (h : ℕ). phase_of p past h ≡ suc n) (sym same) e in omega arith)
        | inr other ↦ let q = legal.met.0 g l other in signalled-by p g n (own g past) k (omega arith)
      ]

  -- what a collector wrote in that phase
  collector-wrote : (s : Step) (past : List Step) → Legal p (earlier o (s ∷ past)) → (n c b : ℕ) (case : Case)
      → phase_of p past (hart_of s) ≡ suc n → case_of_phase p (suc n) ≡ Some c → slice_get p.cases.cases c ≡ Some case
      → IsTrue (is_declared p.cases b)
      → wrote p (s ∷ past) n b (collector p.cases b) ≡ Some (first_byte case.first b)
  collector-wrote s past legal n c b case e run is shared =
      let g = collector p.cases b in
      let l = collector-less p b m.formed in
      let limit = (formed-sizes m.formed).harts in
      let before = Legal-earlier p o (s ∷ []) past legal in
      let k = legal-keeps p m (earlier o past) before g l in
      let z = on-legal p m.formed g l (tame p m g l) (SetsBeforeSignal p g) (sets g l).sets (earlier o past) before in
      let apart = λ (v : ℕ). flag-misses g b v (window-flag g b (omega arith) (shared-window p b m.formed shared)) in
      let old = has-set p g c b case is shared refl apart (first_state (o g)) n (own g past) k z run
      (others-signalled s past legal n g l e) in
      elim (cases_eq (hart_of s) g) [
        | inl same ↦ wrote-other p n b g s past same (λ f. let x : phase_of p past g
            ≡ suc n = subst (λ (h : ℕ). phase_of p past h ≡ suc n) same e in omega arith) ∙ old
        | inr other ↦ wrote-there p n b g s past other ∙ old
      ]

  settles-at : (s : Step) (past : List Step) → Legal p (earlier o (s ∷ past)) → (c b : ℕ) (case : Case)
      → slice_get p.cases.cases c ≡ Some case
      → IsTrue (comes_to p (hart_of s) (Enter c) (now (first_state (o (hart_of s))) (own (hart_of s) past)).pc
      s.after.pc) → IsTrue (is_declared p.cases b)
      → settled p (s ∷ past) (phase_of p (s ∷ past) (hart_of s)) b ≡ Some (first_byte case.first b)
  settles-at s past legal c b case is came shared =
      let h = hart_of s in
      let l = legal.paths.only.0 in
      let t = tame p m h l in
      let here = own-here h s past refl in
      let few : c < case_count p = slice_get_within p.cases.cases c case is in
      let path : HalfPath p h (first_state (o h)) (s ∷ own h past) =
      subst (HalfPath p h (first_state (o h))) here
      (half-path p m.formed h l t o legal.paths.opening (s ∷ past) legal) in
      let order : KeepsOrder p h (first_state (o h)) (s ∷ own h past) =
      subst (KeepsOrder p h (first_state (o h))) here
      (on-legal p m.formed h l t (KeepsOrder p h) t.order (earlier o (s ∷ past)) legal) in
      let behind : EntersBehindExit p h (first_state (o h)) (s ∷ own h past) =
      subst (EntersBehindExit p h (first_state (o h))) here
      (on-legal p m.formed h l t (EntersBehindExit p h) (sets h l).behind (earlier o (s ∷ past)) legal) in
      let (i, was, is-now, run) = entered-in p m.formed h l (o h) s (own h past) path order (behind.0 c few came) c few
      came in
      let phase-is : phase_of p (s ∷ past) h ≡ suc (2 * i) = ap (phase (exit_of p h)) here ∙ is-now in
      let even : 2 * i % 2 ≡ 0 = omega arith in
      ap (λ (n : ℕ). settled p (s ∷ past) n b) phase-is
      ∙ (ap (settle (wrote p (s ∷ past) (2 * i) b) (settled p (s ∷ past) (2 * i) b))
      (shared-writers p (2 * i) b m.formed even shared)
      ∙ ap (λ (a : Option ℕ). or_else a (settled p (s ∷ past) (2 * i) b))
      (collector-wrote s past legal (2 * i) c b case was run is shared))

  settles : (steps : List Step) → Legal p (earlier o steps) → SettlesFirst p (earlier o steps)
  settles [] legal = tt
  settles (s ∷ past) legal = (settles-at s past legal, settles past (Legal-earlier p o (s ∷ []) past legal))

pub first-settles : (p : Program) → FirstBytesSettle p
first-settles p m sets r legal = settles p m sets r.opening r.steps legal

pub course-kept : (p : Program) → CourseKept p
course-kept p formed hart sets =
    let m = course-meets p formed hart in
    record { laid = formed.laid; hart = hart; legal_writes = writes-right p m; first = first-settles p m sets }
