-- What a log tells with the entries of a barrier up to its last fence.
use Rattle.std.proofs.Common.{◌≡◌, ◌≢◌, ◌⊎◌, inl, inr, ℕ, suc, ◌+◌, ◌-◌, ◌*◌, ◌<◌, ◌≤◌, Bool, true, false, ◌==◌}
use Rattle.std.proofs.Common.{eqb-true, ne_eqb, List, [], ◌∷◌, ◌++◌, length, Option, None, Some, refl, sym, ap, ap₂}
use Rattle.std.proofs.Common.{◌∙◌, subst, arith, append-nil}
use Rattle.std.specs.Prelude.{slice_index_or, IfSome, if◌then◌else◌}
use Rattle.std.proofs.lemmas.Bool.{eqb-false}
use Rattle.std.proofs.lemmas.Option.{IfSome_then}
use Rattle.tm_table.specs.declared.state.Access.{Access}
use Rattle.tm_table.specs.declared.state.Access.TheVariants.{Quiet, Read, Write}
use Rattle.tm_plan_cases.specs.declared.program.Program.{Program}
use Rattle.tm_plan_map.specs.Map.{flag_at, private_at, private_size, windows_base}
use Rattle.tm_plan_map.proofs.Within.{within-false}
use Rattle.tm_plan_cases.specs.Collected.{owned}
use Rattle.tm_base.specs.Lists.{any}
use Rattle.tm_plan_cases.specs.Shaped.{MasksFit}
use Rattle.tm_world.specs.Lists.{or_else, IsFront}
use Rattle.tm_world.specs.Place.{harts, case_count, start_of, end_of, exit_of, halt_of, byte_of}
use Rattle.tm_world.specs.Run.{written}
use Rattle.tm_world.specs.Writers.{case_of_phase}
use Rattle.tm_world.specs.Marks.{Mark, arrivals, whole_way}
use Rattle.tm_world.specs.Course.{last_phase}
use Rattle.tm_runs.specs.Machine.{Entry}
use Rattle.tm_runs.specs.Runs.{Each, Does}
use Rattle.tm_runs.specs.Course.{trail, Story}
use Rattle.tm_runs.proofs.Arrivals.{quiet-off, arrivals-none}
use Rattle.tm_legal.proofs.Formed.{formed-sizes}
use Rattle.tm_legal.specs.Tame.{Formed}
use Rattle.tm_blocks_base.specs.Laws.{Uses}
use Rattle.tm_barrier.specs.Words.{meet}
use Rattle.tm_barrier.specs.Laws.{MeetUses, IsOtherFlag, KeepsInStep, worked}
use Rattle.tm_runs.specs.Phases.{idles_in}
use Rattle.tm_barrier.specs.Course.{Comes, PassesBarrier}
use Rattle.tm_barrier.proofs.Passing.{barriers_keep}
use Rattle.tm_pass_way.specs.Logs.{work_in}
use Rattle.tm_runs.specs.Phases.{phase_in, steps_in, now_in, signals_in}
use Rattle.tm_pass_way.specs.Facts.{Fact, Told, AreSet, last_in}
use Rattle.tm_runs.specs.Phases.{Keeping}
use Rattle.tm_runs.proofs.Story.{each-map, story-map}
use Rattle.tm_pass_way.specs.Calm.{IsBelow, IsOwn}
use Rattle.tm_pass_way.proofs.Calm.{flag-low, work-more}
use Rattle.tm_plan_owned.proofs.Collected.{owned-above}
use Rattle.tm_pass_way.proofs.Calm.{private-below}
use Rattle.tm_pass_way.proofs.Barrier.{Signals, barrier-fact}
use Rattle.tm_pass_way.proofs.Waiting.{phase-all, now-all, barrier-work}
use Rattle.tm_pass_steps.specs.Sites.{BarrierSite}

-- ---- what a barrier writes

written-low : (h b : ℕ) (x : Access) → h < 16 → windows_base ≤ b → Uses IsBelow (Signals h) x → written x b ≡ None
written-low h b Quiet low l u = refl
written-low h b (Read addr width v) low l u = refl
written-low h b (Write addr width v) low l u = ap (λ (t : Bool). if t then Some (byte_of v (b - addr))
    else None) (within-false addr width b (inr (by u.1)))
  where
    by : IsOwn h addr ⊎ (addr ≡ flag_at h) → addr + width ≤ b
    by (inl m) = let w = u.0 in let k = private-below h low in omega arith
    by (inr m) = let w = u.0 in let k = private-below h low in let f = flag-low h h low in omega arith

pub set-one : (p : Program) (h d : ℕ) (e : Entry) (es : List Entry) → h < 16 → Uses IsBelow (Signals h) e.access
    → AreSet p h d es → AreSet p h d (e ∷ es)
set-one p h d e es low uses set case at k x l i m =
    ap (λ (o : Option ℕ). or_else o (last_in (slice_index_or (owned p.cases h) k x + i) es))
    (written-low h (slice_index_or (owned p.cases h) k x + i) e.access low (let z = owned-above p h k x l in
    omega arith) uses)
    ∙ set case at k x l i m

module _ (p : Program) (formed : Formed p) (fit : MasksFit p.cases p.masks) (h : ℕ) (number : h < harts p) (limit : ℕ
    → ℕ) (entry : ℕ) (site : BarrierSite p h entry) where
  abbrev exit : ℕ
  exit = exit_of p h

  abbrev n : ℕ
  n = harts p

  abbrev hi : ℕ
  hi = entry + 4 * length (meet h n)

  abbrev cell : ℕ
  cell = private_at h + 256

  abbrev Bars : Entry → Type 0
  Bars = Does entry hi (MeetUses h n cell)

  pub low : h < 16
  low = let b = (formed-sizes formed).harts in omega arith

  cell-own : IsOwn h cell
  unfolding private_size
  cell-own = (omega arith, omega arith)

  pub uses : (x : Access) → MeetUses h n cell x → Uses IsBelow (Signals h) x
  uses Quiet u = tt
  uses (Read a width v) u = (u.0, by u.1)
    where
      by : (a ≡ cell) ⊎ IsOtherFlag h n a → IsBelow a
      by (inl e) = let k = private-below h low in let c = cell-own in omega arith
      by (inr f) = let k = private-below h low in let c = cell-own in let g =
          flag-low f.hart h (let b = (formed-sizes formed).harts in omega (arith, f.below)) in omega (arith, f.is)
  uses (Write a width v) u = (u.0, by u.1)
    where
      by : (a ≡ cell) ⊎ (a ≡ flag_at h) → Signals h a
      by (inl e) = inl (subst (IsOwn h) (sym e) cell-own)
      by (inr e) = inr e

  pub off : (e : Entry) → Bars e → e.pc ≢ exit
  off e d = λ z. let x = site.exit in omega (arith, d.below)

  starts : (e : Entry) → Bars e → (d : ℕ) → d < case_count p → e.next ≢ start_of p h d
  starts e b d l z = omega (arith, b.least, site.streams d l, site.some d l)

  halts : (e : Entry) → Bars e → e.next ≢ halt_of p h
  halts e b z = omega (arith, b.least, site.halt)

  unmarked : (e : Entry) → Bars e → arrivals p h e.pc e.next ≡ []
  unmarked e b =
      arrivals-none p h e.pc e.next (λ d l. quiet-off p h e.pc e.next d (site.some d l)
      (inr (omega (arith, b.least, site.streams d l)))) (λ z. let x = site.exit in omega (arith, b.most)) (halts e b)

  module _ (q : ℕ) (base : List Entry) (phase : phase_in exit base ≡ q) (silent : any (signals_in h) (now_in exit base)
      ≡ false) (before : q < last_phase p)
      (ended : IfSome (case_of_phase p q) (λ d. any (λ (e : Entry). e.next == end_of p h d) (now_in exit base) ≡ true))
      (set : IfSome (case_of_phase p (suc q)) (λ d. AreSet p h d (now_in exit base))) where
    comes : Comes p h q base
    comes = record {
      phase = phase;
      silent = subst (λ (r : ℕ). any (signals_in h) (steps_in exit r base) ≡ false) phase silent;
      ended = subst (λ (r : ℕ). IfSome (case_of_phase p q)
          (λ d. any (λ (e : Entry). e.next == end_of p h d) (steps_in exit r base) ≡ true)) phase ended;
      more = λ z. omega arith;
    }

    pub passes : (es : List Entry) → Story (Fact p h) base → Each Bars es → Story (KeepsInStep h n (q + 1)) es
        → PassesBarrier p h q base es
    passes es story each steps =
        barriers_keep p h q base es number comes (story-map (Fact p h) (Keeping p h)
        (λ past e f. f.barrier) base story) steps
        (each-map off es each)

    far : (es : List Entry) → Each Bars es → Each (λ (e : Entry). e.pc ≢ exit) es
    far es each = each-map off es each

    pub phase-there : (es : List Entry) → Each Bars es → phase_in exit (es ++ base) ≡ q
    phase-there es each = phase-all p formed fit h number q base phase es (far es each)

    pub now-there : (es : List Entry) → Each Bars es → now_in exit (es ++ base) ≡ es ++ now_in exit base
    now-there es each = now-all p formed fit h number q base phase es (far es each)

    set-all : (d : ℕ) (es : List Entry) → Each Bars es → AreSet p h d (now_in exit base)
        → AreSet p h d (es ++ now_in exit base)
    set-all d [] each g = g
    set-all d (e ∷ es) each g = set-one p h d e (es ++ now_in exit base) low (uses e.access each.0.access)
        (set-all d es each.1 g)

    pub sets : (es : List Entry) → Each Bars es → IfSome (case_of_phase p (suc (phase_in exit (es ++ base))))
        (λ d. AreSet p h d (now_in exit (es ++ base)))
    sets es each =
        subst (λ (r : ℕ). IfSome (case_of_phase p (suc r)) (λ d. AreSet p h d (now_in exit (es ++ base))))
        (sym (phase-there es each))
        (IfSome_then (case_of_phase p (suc q)) set (λ d g. subst (AreSet p h d) (sym (now-there es each))
        (set-all d es each g)))

    facts : (es : List Entry) → Each Bars es → Story (Keeping p h) (es ++ base) → Story (Fact p h) base
        → Story (Fact p h) (es ++ base)
    facts [] each keep story = story
    facts (e ∷ es) each keep story = (
      barrier-fact p formed fit h number (es ++ base) e keep.0
          (uses e.access each.0.access) (starts e each.0) (halts e each.0) (λ z. absurd (off e each.0 z))
          (λ _. sets es each.1),
      facts es each.1 keep.1 story,
    )

    pub trail-same : (es : List Entry) → Each Bars es → trail (arrivals p h) (es ++ base) ≡ trail (arrivals p h) base
    trail-same [] each = refl
    trail-same (e ∷ es) each = ap₂ (λ (x y : List Mark). x ++ y) (trail-same es each.1) (unmarked e each.0) ∙ append-nil
        (trail (arrivals p h) base)

    other-work : (r : ℕ) (es : List Entry) → r ≢ q → Each Bars es → work_in p h r (es ++ base) ≤ work_in p h r base
    other-work r [] ne each = omega arith
    other-work r (e ∷ es) ne each =
        let m = subst (λ (x : Bool). work_in p h r (e ∷ es ++ base) ≤ (if x then suc (work_in p h r (es ++ base))
        else work_in p h r (es ++ base))) (ne_eqb (phase_in exit (es ++ base)) r
        (λ z. ne (sym z ∙ phase-there es each.1))) (work-more p formed fit h number r (es ++ base) e) in
        let k = other-work r es ne each.1 in
        omega arith

    own-work : (es : List Entry) → Each Bars es → Story (KeepsInStep h n (q + 1)) es
        → work_in p h q (es ++ base) ≤ work_in p h q base + worked (idles_in h n (q + 1)) es
    own-work es each steps = barrier-work p formed fit h number q base phase es (far es each)
        (story-map (KeepsInStep h n (q + 1)) (λ past e. idles_in h n (q + 1) e ≡ true → any (signals_in h) past
        ≡ true) (λ past e k. k.waits) es steps)

    pub few-there : (es : List Entry) (o : ℕ) → Each Bars es → Story (KeepsInStep h n (q + 1)) es
        → worked (idles_in h n (q + 1)) es ≤ 7 + 2 * n → work_in p h q base ≤ o
        → work_in p h q (es ++ base) ≤ o + 7 + 2 * n
    few-there es o each steps work few = let w = own-work es each steps in omega arith

    -- so far in the barrier, all is told
    pub told-there : (es : List Entry) (o : ℕ) → Each Bars es → Story (KeepsInStep h n (q + 1)) es
        → worked (idles_in h n (q + 1)) es ≤ 7 + 2 * n → work_in p h q base ≤ o → o + 7 + 2 * n ≤ limit q
        → Told p h limit base → Told p h limit (es ++ base)
    told-there es o each steps work few room told = record {
      order = subst (λ (ms : List Mark). IsFront ms (whole_way p)) (sym (trail-same es each)) told.order;
      story = facts es each (passes es told.story each steps).story told.story;
      pace = λ r. by r (r == q) refl;
    }
      where
        by : (r : ℕ) (b : Bool) → (r == q) ≡ b → work_in p h r (es ++ base) ≤ limit r
        by r true e = let w = few-there es o each steps work few in let same : r ≡ q = eqb-true r q e in
            subst (λ (x : ℕ). work_in p h x (es ++ base) ≤ limit x) (sym same) (omega arith)
        by r false e = by-other (eqb-false r q e)
          where
            by-other : (r ≢ q) → work_in p h r (es ++ base) ≤ limit r
            by-other ne = let w = other-work r es ne each in let k = told.pace r in omega arith
