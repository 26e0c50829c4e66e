-- The part that compares the passes of a case, from what its block's law tells at its end.
use Rattle.std.proofs.Common.{◌≡◌, ◌≢◌, ◌⊎◌, inl, inr, ℕ, suc, ◌+◌, ◌<◌, ◌≤◌, Bool, true, false, ◌||◌, List, ◌∷◌}
use Rattle.std.proofs.Common.{◌++◌, length, Option, Some, refl, sym, ap, ap₂, ◌∙◌, subst, arith, length-append}
use Rattle.std.specs.Prelude.{slice_get, slice_index, IfSome}
use Rattle.std.proofs.lemmas.Bool.{cases_lt, or_right}
use Rattle.tm_plan_cases.specs.declared.masks.CaseMask.{CaseMask}
use Rattle.tm_plan_cases.specs.declared.program.Program.{Program}
use Rattle.tm_plan_map.specs.Map.{verdict_at}
use Rattle.tm_plan_cases.specs.Collected.{owned}
use Rattle.tm_base.specs.Lists.{any}
use Rattle.tm_plan_cases.specs.Shaped.{MasksFit}
use Rattle.tm_world.specs.Lists.{IsFront}
use Rattle.tm_world.specs.Place.{harts, case_count, passes, start_of, exit_of, halt_of}
use Rattle.tm_world.specs.Marks.{Mark, arrivals, whole_way}
use Rattle.tm_world.specs.Course.{round_before, writes_in}
use Rattle.tm_world.specs.Kinds.{writes_flag}
use Rattle.tm_world.proofs.Accesses.{writes-itself}
use Rattle.tm_runs.specs.Machine.{State, Entry}
use Rattle.tm_runs.specs.Runs.{Takes}
use Rattle.tm_runs.specs.World.{world_of}
use Rattle.tm_runs.specs.Course.{trail}
use Rattle.tm_runs.proofs.Split.{takes_count}
use Rattle.tm_runs.proofs.Compose.{keeps_after, keeps_now, takes_map}
use Rattle.tm_legal.proofs.Formed.{formed-sizes}
use Rattle.tm_legal.specs.Tame.{Formed}
use Rattle.tm_pass_way.specs.Logs.{reports, work_in}
use Rattle.tm_runs.specs.Phases.{phase_in, now_in, signals_in}
use Rattle.tm_pass_way.specs.Facts.{Fact, Told, Gathered}
use Rattle.tm_pass_way.specs.Parts.{Hold, Ready, Passes, PassTold, Leads, phase_at, way_to}
use Rattle.tm_pass_way.specs.Calm.{Clear, Steady, ComparesTo}
use Rattle.tm_runs.proofs.Ahead.{Small, takes_told, world-low}
use Rattle.tm_pass_way.proofs.Calm.{phase-stays, now-stays, steady-part}
use Rattle.tm_plan_owned.proofs.Collected.{owned-above}
use Rattle.tm_pass_way.proofs.Lift.{told-drop, left-same, read-same, gathered-more}
use Rattle.tm_pass_way.proofs.Steady.{paces}
use Rattle.tm_pass_way.proofs.Special.{verdict-fact, cell-flag, same-cell}
use Rattle.tm_pass_way.proofs.Gathered.{gathered-one}

module _ (p : Program) (formed : Formed p) (fit : MasksFit p.cases p.masks) (h : ℕ) (number : h < harts p) (limit : ℕ
    → ℕ) (c lo hi place n o : ℕ) (m : CaseMask) (here : c < case_count p) (mask : slice_get p.masks.cases c
    ≡ Some m) (clear : Clear p h lo hi) (room : o + n ≤ limit (phase_at p (suc c) 0)) (some : lo ≤ hi)
    (off : hi ≢ exit_of p h) (starts : (d : ℕ) → d < case_count p → place ≢ start_of p h d) (halts : place ≡ halt_of p h
    → suc c ≡ case_count p) (new : List Mark) (marks : arrivals p h hi place
    ≡ new) (front : IsFront (way_to p (suc c) 0 ++ new) (whole_way p)) where
  abbrev q : ℕ
  q = phase_at p (suc c) 0

  abbrev ms : List Mark
  ms = way_to p (suc c) 0

  abbrev exit : ℕ
  exit = exit_of p h

  low : h < 16
  low = let b = (formed-sizes formed).harts in omega arith

  module _ (s t : State) (ready : Ready p h lo q c o ms s) (passed : Passes p h c (passes p) s)
      (told : Told p h limit s.log) (a : ComparesTo p h c m lo hi place s t) (short : length t.log ≤ length s.log + n)
      (gathered : Gathered p h (now_in exit (a.entries ++ s.log))) where
    hold : Hold p h lo q c o ms s
    hold = ready.hold

    past : List Entry
    past = a.entries ++ s.log

    lengths : suc (length a.entries) ≤ n
    lengths = omega (arith, ap length a.log, length-append a.entries s.log)

    before : Steady p h limit q c (o + length a.entries) ms (a.entries ++ s.log)
    before = steady-part p formed fit h number limit lo hi clear q c o (length a.entries) ms a.entries s.log
        (omega arith) (omega arith) (let l = lengths in
        omega arith) a.each (record {
          phase = hold.phase;
          way = hold.way;
          silent = hold.silent;
          judged = hold.judged;
          unjudged = hold.unjudged;
          few = hold.few;
          told = told;
        })

    still-told : (j : ℕ) → j < passes p → PassTold p h c j (a.entries ++ s.log) s.mem
    still-told j l =
        let g = passed.each j l in
        record {
          registers = g.registers;
          told = left-same p formed fit h number limit lo hi clear c _ here a.entries s.log a.each ∙ g.told;
          saved = g.saved;
          read = λ d i x y. read-same p formed fit h number limit lo hi clear _ (slice_index (owned p.cases h) d + i)
              (let z = owned-above p h d 0 x in omega arith) a.entries s.log a.each ∙ g.read d i x y;
        }

    from-off : a.last.pc ≢ exit
    from-off z = off (sym a.from ∙ z)

    fact : Fact p h (a.entries ++ s.log) a.last
    fact =
        verdict-fact p formed fit h number (a.entries ++ s.log) a.last c a.value m s.mem here mask a.access from-off
        (λ d l z. starts d l (sym a.to ∙ z)) (λ z. halts (sym a.to ∙ z)) before.phase before.silent before.judged
        (before.unjudged c (omega arith) here) gathered
        still-told a.found

    tells : Told p h limit (a.last ∷ (a.entries ++ s.log))
    tells =
        let w = paces p formed fit h number limit q (o + length a.entries) (a.entries ++ s.log) a.last before.phase
        before.few (let l = lengths in omega arith) before.told.pace in
        record {
          order = subst (λ (l : List Mark). IsFront l (whole_way p)) (sym way) front;
          story = (fact, before.told.story);
          pace = w.1;
        }
      where
        way : trail (arrivals p h) (a.last ∷ (a.entries ++ s.log)) ≡ ms ++ new
        way = ap₂ (λ (x y : List Mark). x ++ y) before.way (ap₂ (arrivals p h) a.from a.to ∙ marks)

    not-signals : signals_in h a.last ≡ false
    not-signals = ap (writes_flag h) a.access ∙ cell-flag c h a.value low

    other-cell : (d : ℕ) → d ≢ c → reports d h a.last ≡ false
    other-cell d e = by (reports d h a.last) refl
      where
        by : (b : Bool) → reports d h a.last ≡ b → reports d h a.last ≡ false
        by false z = z
        by true z = absurd
            (e (same-cell c d h h (omega (arith, low)) (omega (arith, low))
            (sym (ap (writes_in (verdict_at d h) 8) a.access) ∙ z)).0)

    judges : (d : ℕ) → d < suc c → any (reports d h) (a.last ∷ (a.entries ++ s.log)) ≡ true
    judges d l = by (cases_lt d c)
      where
        by : (d < c) ⊎ (c ≤ d) → any (reports d h) (a.last ∷ (a.entries ++ s.log)) ≡ true
        by (inl x) = or_right (reports d h a.last) (any (reports d h) (a.entries ++ s.log)) (before.judged d x)
        by (inr x) = let e : c ≡ d = omega arith in
            subst (λ (k : ℕ). any (reports k h) (a.last ∷ (a.entries ++ s.log))
            ≡ true) e (ap (λ (b : Bool). b || any (reports c h) (a.entries ++ s.log))
            (ap (writes_in (verdict_at c h) 8) a.access ∙ writes-itself (verdict_at c h) 0))

    there : Small (world_of p h) t → Ready p h place q (suc c) (o + n) (ms ++ new) t
    there small =
        let w = paces p formed fit h number limit q (o + length a.entries) (a.entries ++ s.log) a.last before.phase
        before.few (let l = lengths in omega arith) before.told.pace in
        let now = now-stays p formed fit h number (a.entries ++ s.log) a.last from-off in
        record {
          hold = record {
            pc = a.leaves.pc;
            base = a.leaves.base ∙ hold.base;
            exits = a.leaves.exits ∙ hold.exits;
            fixed = λ x y. a.leaves.fixed x y ∙ hold.fixed x y;
            regs = small.regs;
            mem = small.mem;
            phase = ap (phase_in exit) a.log ∙ (phase-stays p formed fit h number (a.entries ++ s.log) a.last from-off ∙
                before.phase);
            way = ap (trail (arrivals p h)) a.log ∙ ap₂ (λ (x y : List Mark). x ++ y) before.way
                (ap₂ (arrivals p h) a.from a.to ∙ marks);
            silent = ap (λ (l : List Entry). any (signals_in h) (now_in exit l)) a.log ∙
                (ap (any (signals_in h)) now ∙ ap₂ (λ (x y : Bool). x || y) not-signals before.silent);
            judged = λ d l. ap (any (reports d h)) a.log ∙ judges d l;
            unjudged = λ d l x. ap (any (reports d h)) a.log ∙ ap₂ (λ (y z : Bool). y || z)
                (other-cell d (λ z. omega arith)) (before.unjudged d (omega arith) x);
            few = let l = lengths in omega (arith, w.0, ap (work_in p h q) a.log);
          };
          gathered = subst (λ (l : List Entry). IfSome (round_before p q) (λ d. Gathered p h (now_in exit l)))
              (sym a.log) (subst (λ (l : List Entry). IfSome (round_before p q) (λ d. Gathered p h l)) (sym now)
              (gathered-one p h (round_before p q) a.last (now_in exit (a.entries ++ s.log))
              (gathered-more p formed fit h number limit lo hi clear (round_before p q) a.entries s.log a.each
              ready.gathered)));
        }

  some-of : {P : Type 0} (x : Option ℕ) → x ≡ Some c → IfSome x (λ d. P) → P
  some-of {P = P} x e g = subst (λ (y : Option ℕ). IfSome y (λ d. P)) e g

  -- The part of the way that compares the passes of a case, as the way asks for it. Its phase stands behind a run
  -- phase of the case.
  pub compare-part : round_before p q ≡ Some c → (s : State) → Ready p h lo q c o ms s → Passes p h c (passes p) s
      → Told p h limit s.log → Takes (world_of p h) (λ t. Unit {0}) (ComparesTo p h c m lo hi place s) n s
      → Leads p h limit s (λ t. Ready p h place q (suc c) (o + n) (ms ++ new) t × Told p h limit t.log)
  compare-part run s ready passed told runs =
      keeps_after
      (takes_map (λ t g. g) (λ t g. (there s t ready passed told g.0.0 g.0.1 (all g.0.0) g.2, g.1))
      (takes_told (world_of p h) (world-low p h (formed-sizes formed)) (Told p h limit) (told-drop p h limit)
      (λ t g. subst (Told p h limit) (sym g.0.log) (tells s t ready passed told g.0 g.1 (all g.0)))
      (record { regs = ready.hold.regs; mem = ready.hold.mem }) (takes_count runs)))
      (λ t g. keeps_now g)
    where
      all : {t : State} → (a : ComparesTo p h c m lo hi place s t) → Gathered p h (now_in exit (a.entries ++ s.log))
      all a = some-of (round_before p q) run (gathered-more p formed fit h number limit lo hi clear (round_before p q)
          a.entries s.log a.each ready.gathered)
