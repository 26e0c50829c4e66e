-- What a log tells stays so with one entry more: one that may come to a mark, and the one at the exit mark, which
-- ends the phase.
use Rattle.std.proofs.Common.{◌≡◌, ◌≢◌, ℕ, suc, ◌<◌, ◌≤◌, Bool, true, false, ◌||◌, ◌==◌, eqb-true, eq-eqb, ne_eqb}
use Rattle.std.proofs.Common.{List, [], ◌∷◌, ◌++◌, refl, sym, ap, ap₂, ◌∙◌, subst, arith, append-nil}
use Rattle.std.specs.Prelude.{if◌then◌else◌}
use Rattle.std.proofs.lemmas.Bool.{or_right}
use Rattle.tm_plan_cases.specs.declared.program.Program.{Program}
use Rattle.tm_base.specs.Lists.{any}
use Rattle.tm_plan_cases.specs.Shaped.{MasksFit}
use Rattle.tm_world.specs.Lists.{IsFront}
use Rattle.tm_world.specs.Place.{harts, case_count, exit_of}
use Rattle.tm_world.specs.Kinds.{stream_at}
use Rattle.tm_world.specs.Marks.{Mark, arrivals, whole_way}
use Rattle.tm_runs.specs.Machine.{Entry}
use Rattle.tm_runs.specs.Course.{trail}
use Rattle.tm_legal.specs.Tame.{Formed}
use Rattle.tm_stays.specs.Stays.{one_outside}
use Rattle.tm_pass_way.specs.Logs.{reports, work_in}
use Rattle.tm_runs.specs.Phases.{phase_in, steps_in, now_in, signals_in, lately_at}
use Rattle.tm_pass_way.specs.Facts.{Fact, Told}
use Rattle.tm_pass_way.specs.Calm.{Steady}
use Rattle.tm_pass_way.proofs.Calm.{phase-stays, now-stays, work-more}

module _ (p : Program) (formed : Formed p) (fit : MasksFit p.cases p.masks) (h : ℕ) (number : h < harts p) (limit : ℕ
    → ℕ) where
  abbrev exit : ℕ
  exit = exit_of p h

  -- the work of each phase, with one entry more
  pub paces : (q o : ℕ) (past : List Entry) (e : Entry) → phase_in exit past ≡ q → work_in p h q past ≤ o
      → suc o ≤ limit q → ((r : ℕ) → work_in p h r past ≤ limit r) → (work_in p h q (e ∷ past) ≤ suc o)
      × ((r : ℕ) → work_in p h r (e ∷ past) ≤ limit r)
  paces q o past e phase few room pace = (here, λ r. each r (phase_in exit past == r) refl)
    where
      here : work_in p h q (e ∷ past) ≤ suc o
      here = let m =
          subst (λ (x : Bool). work_in p h q (e ∷ past) ≤ (if x then suc (work_in p h q past) else work_in p h q past))
          (eq-eqb (phase_in exit past) q phase) (work-more p formed fit h number q past e) in omega (arith, m, few)

      each : (r : ℕ) (b : Bool) → (phase_in exit past == r) ≡ b → work_in p h r (e ∷ past) ≤ limit r
      each r true f = let same : q ≡ r = sym phase ∙ eqb-true (phase_in exit past) r f in
          subst (λ (x : ℕ). work_in p h x (e ∷ past) ≤ limit x) same (let m = here in omega arith)
      each r false f = let m =
          subst (λ (x : Bool). work_in p h r (e ∷ past) ≤ (if x then suc (work_in p h r past) else work_in p h r past))
          f (work-more p formed fit h number r past e) in omega (arith, m, pace r)

  -- An entry that keeps its facts and comes to these marks.
  pub steady-more : (q c o : ℕ) (ms new : List Mark) (past : List Entry) (e : Entry) → e.pc ≢ exit → Fact p h past e
      → arrivals p h e.pc e.next ≡ new → IsFront (ms ++ new) (whole_way p) → signals_in h e ≡ false
      → ((d : ℕ) → d < case_count p → reports d h e ≡ false) → suc o ≤ limit q → Steady p h limit q c o ms past
      → Steady p h limit q c (suc o) (ms ++ new) (e ∷ past)
  steady-more q c o ms new past e from fact marks front still none room a =
      let w = paces q o past e a.phase a.few room a.told.pace in
      let way : trail (arrivals p h) (e ∷ past) ≡ ms ++ new = ap₂ (λ (x y : List Mark). x ++ y) a.way marks in
      record {
        phase = phase-stays p formed fit h number past e from ∙ a.phase;
        way = way;
        silent = ap (any (signals_in h)) (now-stays p formed fit h number past e from) ∙ ap₂ (λ (x y : Bool). x || y)
            still a.silent;
        judged = λ d m. or_right (reports d h e) (any (reports d h) past) (a.judged d m);
        unjudged = λ d m n. ap₂ (λ (x y : Bool). x || y) (none d n) (a.unjudged d m n);
        few = w.0;
        told = record {
          order = subst (λ (l : List Mark). IsFront l (whole_way p)) (sym way) front;
          story = (fact, a.told.story);
          pace = w.1;
        };
      }

  -- ---- phases that haven't begun

  phase-grows : (e : Entry) (log : List Entry) → phase_in exit log ≤ phase_in exit (e ∷ log)
  phase-grows e log = by (e.pc == exit)
    where
      by : (b : Bool) → phase_in exit log ≤ (if b then suc (phase_in exit log) else phase_in exit log)
      by true = omega arith
      by false = omega arith

  either-way : (b : Bool) (n : ℕ) → n ≡ 0 → (if b then n else n) ≡ 0
  either-way true n e = e
  either-way false n e = e

  pub none-later : (r : ℕ) (log : List Entry) → phase_in exit log < r → (steps_in exit r log ≡ [])
      × (work_in p h r log ≡ 0)
  none-later r [] l = (refl, refl)
  none-later r (e ∷ past) l =
      let before = none-later r past (let g = phase-grows e past in omega arith) in
      let off : (phase_in exit past == r) ≡ false =
      ne_eqb (phase_in exit past) r (λ z. let g = phase-grows e past in omega arith) in (
        ap (λ (b : Bool). if b then e ∷ steps_in exit r past else steps_in exit r past) off ∙ before.0,
        ap (λ (b : Bool). if lately_at p h 4 (e ∷ past) then work_in p h r past
            else (if b then one_outside (stream_at p h e.pc) (work_in p h r past) else work_in p h r past)) off ∙
            either-way (lately_at p h 4 (e ∷ past)) (work_in p h r past) before.1,
      )

  -- The entry at the exit mark, which comes to no mark: the next phase has begun, and nothing was done in it.
  pub steady-exit : (q c o : ℕ) (ms : List Mark) (past : List Entry) (e : Entry) → e.pc ≡ exit → Fact p h past e
      → arrivals p h e.pc e.next ≡ [] → ((d : ℕ) → d < case_count p → reports d h e ≡ false) → suc o ≤ limit q
      → phase_in exit past ≡ q → trail (arrivals p h) past ≡ ms → ((d : ℕ) → d < c → any (reports d h) past ≡ true)
      → ((d : ℕ) → c ≤ d → d < case_count p → any (reports d h) past ≡ false) → work_in p h q past ≤ o
      → Told p h limit past
      → Steady p h limit (suc q) c 0 ms (e ∷ past) × (now_in exit (e ∷ past) ≡ [])
  steady-exit q c o ms past e at fact marks none room phase way judged unjudged few told =
      let w = paces q o past e phase few room told.pace in
      let more : phase_in exit (e ∷ past) ≡ suc (phase_in exit past) =
      ap (λ (b : Bool). if b then suc (phase_in exit past) else phase_in exit past) (eq-eqb e.pc exit at) in
      let later = none-later (suc (phase_in exit past)) past (omega arith) in
      let off : (phase_in exit past == suc (phase_in exit past)) ≡ false =
      ne_eqb (phase_in exit past) (suc (phase_in exit past)) (λ z. omega arith) in
      let now : now_in exit (e ∷ past) ≡ [] =
      ap (λ (r : ℕ). steps_in exit r (e ∷ past)) more ∙
      (ap (λ (b : Bool). if b then e ∷ steps_in exit (suc (phase_in exit past)) past
      else steps_in exit (suc (phase_in exit past)) past) off ∙ later.0) in
      let same : trail (arrivals p h) (e ∷ past) ≡ trail (arrivals p h) past =
      ap (λ (l : List Mark). trail (arrivals p h) past ++ l) marks ∙ append-nil (trail (arrivals p h) past) in
      let work : work_in p h (suc (phase_in exit past)) (e ∷ past) ≡ 0 =
      ap (λ (b : Bool). if lately_at p h 4 (e ∷ past) then work_in p h (suc (phase_in exit past)) past
      else (if b then one_outside (stream_at p h e.pc) (work_in p h (suc (phase_in exit past)) past)
      else work_in p h (suc (phase_in exit past)) past)) off
      ∙ either-way (lately_at p h 4 (e ∷ past)) (work_in p h (suc (phase_in exit past)) past) later.1 in (
        record {
          phase = more ∙ ap suc phase;
          way = same ∙ way;
          silent = ap (any (signals_in h)) now;
          judged = λ d m. or_right (reports d h e) (any (reports d h) past) (judged d m);
          unjudged = λ d m n. ap₂ (λ (x y : Bool). x || y) (none d n) (unjudged d m n);
          few = let z : work_in p h (suc q) (e ∷ past) ≡ 0 =
              subst (λ (r : ℕ). work_in p h (suc r) (e ∷ past) ≡ 0) phase work in omega arith;
          told = record {
            order = subst (λ (l : List Mark). IsFront l (whole_way p)) (sym same) told.order;
            story = (fact, told.story);
            pace = w.1;
          };
        },
        now,
      )
