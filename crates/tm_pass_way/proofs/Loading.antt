-- The part that loads the first registers, from what its block's law tells at its end.
use Rattle.std.proofs.Common.{◌≡◌, ◌≢◌, ◌⊎◌, inl, inr, ℕ, suc, ◌+◌, ◌-◌, ◌<◌, ◌≤◌, Bool, true, false, ◌&&◌, not, ◌==◌}
use Rattle.std.proofs.Common.{List, [], ◌∷◌, ◌++◌, length, Option, None, Some, refl, sym, ap, ◌∙◌, subst, arith}
use Rattle.std.proofs.Common.{append_assoc, length-append}
use Rattle.std.specs.Prelude.{slice_index, if◌then◌else◌}
use Rattle.tm_plan_cases.specs.declared.program.Program.{Program}
use Rattle.tm_plan_cases.specs.Collected.{owned}
use Rattle.tm_plan_map.specs.Map.{windows_base}
use Rattle.tm_plan_cases.specs.Shaped.{MasksFit}
use Rattle.tm_world.specs.Lists.{or_else, IsFront}
use Rattle.tm_world.specs.Place.{harts, case_count, passes, start_of, end_of, exit_of, halt_of, inside}
use Rattle.tm_world.specs.Marks.{Mark, Exit, Enter, End, arrivals, whole_way}
use Rattle.tm_world.proofs.Options.{or_else-none}
use Rattle.tm_runs.specs.Machine.{State, Entry, Table}
use Rattle.tm_runs.specs.Runs.{Takes}
use Rattle.tm_runs.specs.World.{world_of}
use Rattle.tm_runs.proofs.Arrivals.{quiet-off, arrivals-enter, enters, inside-false}
use Rattle.tm_runs.proofs.Split.{takes_count}
use Rattle.tm_runs.proofs.Compose.{keeps_after, keeps_now, takes_map}
use Rattle.tm_legal.proofs.Formed.{formed-sizes}
use Rattle.tm_legal.specs.Tame.{Formed}
use Rattle.tm_pass_way.specs.Logs.{left_in, read_in}
use Rattle.tm_runs.specs.Phases.{phase_in}
use Rattle.tm_pass_way.specs.Facts.{Told}
use Rattle.tm_pass_way.specs.Parts.{Hold, Same, Leads, phase_at, way_to}
use Rattle.tm_pass_way.specs.Calm.{Clear, StreamClear, Steady, LoadsInto}
use Rattle.tm_runs.proofs.Ahead.{Small, takes_told, world-low}
use Rattle.tm_pass_way.proofs.Calm.{Mild, not-reports, not-signals, steady-part}
use Rattle.tm_plan_owned.proofs.Collected.{owned-above}
use Rattle.tm_pass_way.proofs.Lift.{told-drop, left-same, read-same, got-low, none-either, none-and}
use Rattle.tm_pass_way.proofs.Steady.{steady-more}
use Rattle.tm_pass_way.proofs.Special.{entering-fact}
use Rattle.tm_pass_way.proofs.Fronts.{front-then, pass-front}

module _ (p : Program) (formed : Formed p) (fit : MasksFit p.cases p.masks) (h : ℕ) (number : h < harts p) (limit : ℕ
    → ℕ) (c k lo n : ℕ) (here : c < case_count p) (few : k < passes p) (clear : Clear p h lo (start_of p h c - 4))
    (stream : StreamClear p h c) (room : n ≤ limit (phase_at p c k + 1)) (first : 4 ≤ start_of p h c)
    (off : start_of p h c - 4 ≢ exit_of p h) (some : lo ≤ start_of p h c - 4) where
  abbrev q : ℕ
  q = phase_at p c k + 1

  abbrev ms : List Mark
  ms = way_to p c k ++ Exit ∷ []

  module _ (s t : State) (hold : Hold p h lo q c 0 ms s) (told : Told p h limit s.log) (a : LoadsInto p h c lo s t)
      (short : length t.log ≤ length s.log + n) where
    lengths : suc (length a.entries) ≤ n
    lengths = omega (arith, ap length a.log, length-append a.entries s.log)

    mild : Mild p formed fit h number a.last
    mild = record { from = λ z. off (sym a.from ∙ z); halt = by stream.halt; access = a.access }
      where
        by : (halt_of p h < start_of p h c) ⊎ (end_of p h c < halt_of p h) → a.last.next ≢ halt_of p h
        by (inl x) z = omega (arith, z, a.to)
        by (inr x) z = omega (arith, z, a.to, stream.some)

    outside : (d : ℕ) → d < case_count p → inside p h d a.last.pc ≡ false
    outside d l = inside-false p h d a.last.pc (by (clear.streams d l))
      where
        by : (start_of p h c - 4 < start_of p h d) ⊎ (end_of p h d ≤ lo) → (a.last.pc < start_of p h d)
            ⊎ (end_of p h d ≤ a.last.pc)
        by (inl x) = inl (omega (arith, a.from))
        by (inr x) = inr (omega (arith, a.from))

    mark : arrivals p h a.last.pc a.last.next ≡ Enter c ∷ []
    mark =
        let e = enters p h a.last.pc a.last.next c stream.some a.to (outside c here) in
        arrivals-enter p h a.last.pc a.last.next c here
        (λ d l m. quiet-off p h a.last.pc a.last.next d (stream.rising d l) (by d (stream.others d l m)))
        (exits stream.exit) mild.halt e.0 e.1 e.2
      where
        by : (d : ℕ) → (end_of p h c < start_of p h d) ⊎ (end_of p h d < start_of p h c)
            → (a.last.next < start_of p h d) ⊎ (end_of p h d < a.last.next)
        by d (inl x) = inl (omega (arith, a.to, stream.some))
        by d (inr x) = inr (omega (arith, a.to))

        exits : (exit_of p h < start_of p h c) ⊎ (end_of p h c < exit_of p h) → a.last.next ≢ exit_of p h
        exits (inl x) z = omega (arith, z, a.to)
        exits (inr x) z = omega (arith, z, a.to, stream.some)

    steady : Steady p h limit q c (suc (length a.entries)) (ms ++ Enter c ∷ []) t.log
    steady =
        let before : Steady p h limit q c (0 + length a.entries) ms (a.entries ++ s.log) =
        steady-part p formed fit h number limit lo (start_of p h c - 4) clear q c 0 (length a.entries) ms a.entries
        s.log (omega arith) (omega arith) (let l = lengths in
        omega arith) a.each (record {
          phase = hold.phase;
          way = hold.way;
          silent = hold.silent;
          judged = hold.judged;
          unjudged = hold.unjudged;
          few = hold.few;
          told = told;
        }) in
        let z : 0 + length a.entries ≡ length a.entries = omega arith in
        let front : IsFront (ms ++ Enter c ∷ []) (whole_way p) =
        front-then (ms ++ Enter c ∷ []) (End c ∷ Exit ∷ []) (whole_way p)
        (subst (λ (l : List Mark). IsFront l (whole_way p))
        (sym (append_assoc ms (Enter c ∷ []) (End c ∷ Exit ∷ []) ∙ append_assoc (way_to p c k) (Exit ∷ []) (Enter c
        ∷ End c ∷ Exit ∷ []))) (pass-front p c k here few)) in
        subst (λ (l : List Entry). Steady p h limit q c (suc (length a.entries)) (ms ++ Enter c ∷ []) l) (sym a.log)
        (steady-more p formed fit h number limit q c (length a.entries) ms (Enter c ∷ []) (a.entries ++ s.log) a.last
        mild.from
        (entering-fact p formed fit h number (a.entries ++ s.log) a.last c stream mild a.to a.fresh before.silent) mark
        front (not-signals p formed fit h number a.last a.access)
        (λ d l. not-reports p formed fit h number d h a.last l number a.access) (let l = lengths in omega arith)
        (subst (λ (w : ℕ). Steady p h limit q c w ms (a.entries ++ s.log)) z before))

    same : Same p h s t
    same = record {
      left = λ d r l.
          ap (left_in p h d r) a.log
          ∙ (ap (λ (b : Bool). or_else (left_in p h d r (a.entries ++ s.log))
          (if (phase_in (exit_of p h) (a.entries ++ s.log) == r) && (b && not (inside p h d a.last.next))
          then Some a.last.regs else None)) (outside d l)
          ∙ (ap (λ (o : Option Table). or_else (left_in p h d r (a.entries ++ s.log)) o)
          (none-and (phase_in (exit_of p h) (a.entries ++ s.log) == r) a.last.regs) ∙
          (or_else-none (left_in p h d r (a.entries ++ s.log)) ∙ left-same p formed fit h number limit lo
          (start_of p h c - 4) clear d r l a.entries s.log a.each)));
      read = λ r j i l m.
          let b = slice_index (owned p.cases h) j + i in
          let high : windows_base ≤ b = let z = owned-above p h j 0 l in omega arith in
          ap (read_in p h r b) a.log
          ∙ (ap (λ (o : Option ℕ). or_else (read_in p h r b (a.entries ++ s.log))
          (if phase_in (exit_of p h) (a.entries ++ s.log) == r then o else None))
          (got-low h a.last.access b high a.access)
          ∙ (ap (λ (o : Option ℕ). or_else (read_in p h r b (a.entries ++ s.log)) o)
          (none-either (phase_in (exit_of p h) (a.entries ++ s.log) == r)) ∙
          (or_else-none (read_in p h r b (a.entries ++ s.log)) ∙ read-same p formed fit h number limit lo
          (start_of p h c - 4) clear r b high a.entries s.log a.each)));
      memos = a.memos;
    }

    there : Small (world_of p h) t → Hold p h (start_of p h c) q c n (ms ++ Enter c ∷ []) t
    there small =
        let b = steady in
        record {
          pc = a.leaves.pc;
          base = a.leaves.base ∙ hold.base;
          exits = a.leaves.exits ∙ hold.exits;
          fixed = λ x y. a.leaves.fixed x y ∙ hold.fixed x y;
          regs = small.regs;
          mem = small.mem;
          phase = b.phase;
          way = b.way;
          silent = b.silent;
          judged = b.judged;
          unjudged = b.unjudged;
          few = let l = lengths in omega (arith, b.few);
        }

  -- The part of the way that loads the first registers, as the way asks for it.
  pub load-part : (s : State) → Hold p h lo q c 0 ms s → Told p h limit s.log
      → Takes (world_of p h) (λ t. Unit {0}) (LoadsInto p h c lo s) n s
      → Leads p h limit s (λ t. Hold p h (start_of p h c) q c n (way_to p c k ++ Exit ∷ Enter c ∷ []) t × Same p h s t
      × Told p h limit t.log)
  load-part s hold told runs =
      let e : ms ++ Enter c ∷ [] ≡ way_to p c k ++ Exit ∷ Enter c ∷ [] =
      append_assoc (way_to p c k) (Exit ∷ []) (Enter c ∷ []) in
      subst (λ (l : List Mark). Leads p h limit s (λ t. Hold p h (start_of p h c) q c n l t × Same p h s t
      × Told p h limit t.log)) e
      (keeps_after
      (takes_map (λ t g. g) (λ t g. (there s t hold told g.0.0 g.0.1 g.2, same s t hold told g.0.0 g.0.1, g.1))
      (takes_told (world_of p h) (world-low p h (formed-sizes formed)) (Told p h limit) (told-drop p h limit)
      (λ t g. (steady s t hold told g.0 g.1).told) (record { regs = hold.regs; mem = hold.mem })
      (takes_count runs)))
      (λ t g. keeps_now g))
