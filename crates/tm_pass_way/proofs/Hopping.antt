-- A calm part whose last step leads to another place, at which there is no mark.
use Rattle.std.proofs.Common.{◌≡◌, ◌≢◌, ◌⊎◌, inl, inr, ℕ, suc, ◌+◌, ◌<◌, ◌≤◌, Bool, true, false, ◌&&◌, not, ◌==◌}
use Rattle.std.proofs.Common.{List, [], ◌++◌, length, Option, None, Some, refl, sym, ap, ap₂, ◌∙◌, subst, arith}
use Rattle.std.proofs.Common.{length-append}
use Rattle.std.specs.Prelude.{slice_index, IfSome, if◌then◌else◌}
use Rattle.tm_plan_cases.specs.declared.program.Program.{Program}
use Rattle.tm_plan_map.specs.Map.{windows_base}
use Rattle.tm_plan_cases.specs.Collected.{owned}
use Rattle.tm_plan_cases.specs.Shaped.{MasksFit}
use Rattle.tm_world.specs.Lists.{or_else}
use Rattle.tm_world.specs.Place.{harts, case_count, start_of, end_of, exit_of, halt_of, inside}
use Rattle.tm_world.specs.Marks.{Mark, arrivals}
use Rattle.tm_world.specs.Course.{round_before}
use Rattle.tm_world.proofs.Options.{or_else-none}
use Rattle.tm_runs.specs.Machine.{State, Entry, Table}
use Rattle.tm_runs.specs.Runs.{Takes}
use Rattle.tm_runs.specs.World.{world_of}
use Rattle.tm_runs.proofs.Arrivals.{inside-false}
use Rattle.tm_runs.proofs.Split.{takes_count}
use Rattle.tm_runs.proofs.Compose.{keeps_after, keeps_now, takes_map}
use Rattle.tm_legal.proofs.Formed.{formed-sizes}
use Rattle.tm_legal.specs.Tame.{Formed}
use Rattle.tm_pass_way.specs.Logs.{left_in, read_in}
use Rattle.tm_runs.specs.Phases.{phase_in, now_in}
use Rattle.tm_pass_way.specs.Facts.{Told, Gathered}
use Rattle.tm_pass_way.specs.Parts.{Hold, Ready, Leads}
use Rattle.tm_pass_way.specs.Calm.{Clear, Steady, HopsTo, Recalls}
use Rattle.tm_runs.proofs.Ahead.{Small, takes_told, world-low}
use Rattle.tm_pass_way.proofs.Calm.{Still, steady-part, steady-one, now-stays}
use Rattle.tm_plan_owned.proofs.Collected.{owned-above}
use Rattle.tm_pass_way.proofs.Lift.{told-drop, left-same, read-same, got-low, none-either, gathered-more, none-and}
use Rattle.tm_pass_way.proofs.Gathered.{gathered-one}

module _ (p : Program) (formed : Formed p) (fit : MasksFit p.cases p.masks) (h : ℕ) (number : h < harts p) (limit : ℕ
    → ℕ) (lo hi place : ℕ) (clear : Clear p h lo hi) (off : hi ≢ exit_of p h) (some : lo ≤ hi) (beyond : (d : ℕ)
    → d < case_count p → (hi < start_of p h d) ⊎ (end_of p h d ≤ hi)) (starts : (d : ℕ) → d < case_count p
    → place ≢ start_of p h d) (halts : place ≢ halt_of p h) (marks : arrivals p h hi place
    ≡ []) (q c o n : ℕ) (ms : List Mark) (few : c ≤ case_count p) (room : o + n ≤ limit q) where
  abbrev exit : ℕ
  exit = exit_of p h

  module _ (s t : State) (ready : Ready p h lo q c o ms s) (told : Told p h limit s.log)
      (a : HopsTo p h lo hi place s t) (short : length t.log ≤ length s.log + n) where
    hold : Hold p h lo q c o ms s
    hold = ready.hold

    lengths : suc (length a.entries) ≤ n
    lengths = omega (arith, ap length a.log, length-append a.entries s.log)

    still : Still p formed fit h number a.last
    still = record {
      from = λ z. off (sym a.from ∙ z);
      start = λ d l z. starts d l (sym a.to ∙ z);
      halt = λ z. halts (sym a.to ∙ z);
      access = a.access;
    }

    steady : Steady p h limit q c (suc (o + length a.entries)) ms t.log
    steady =
        let before = steady-part p formed fit h number limit lo hi clear q c o (length a.entries) ms a.entries s.log few
        (omega arith) (let l = lengths in omega arith) a.each (record {
          phase = hold.phase;
          way = hold.way;
          silent = hold.silent;
          judged = hold.judged;
          unjudged = hold.unjudged;
          few = hold.few;
          told = told;
        }) in
        subst (λ (l : List Entry). Steady p h limit q c (suc (o + length a.entries)) ms l) (sym a.log)
        (steady-one p formed fit h number limit q c (o + length a.entries) ms (a.entries ++ s.log) a.last few still
        (ap₂ (arrivals p h) a.from a.to ∙ marks) (let l = lengths in omega arith) before)

    outside : (d : ℕ) → d < case_count p → inside p h d a.last.pc ≡ false
    outside d l = inside-false p h d a.last.pc (by (beyond d l))
      where
        by : (hi < start_of p h d) ⊎ (end_of p h d ≤ hi) → (a.last.pc < start_of p h d) ⊎ (end_of p h d ≤ a.last.pc)
        by (inl x) = inl (omega (arith, a.from))
        by (inr x) = inr (omega (arith, a.from))

    recalls : Recalls p h s t
    recalls = record {
      left = λ d r l.
          ap (left_in p h d r) a.log
          ∙ (ap (λ (b : Bool). or_else (left_in p h d r (a.entries ++ s.log))
          (if (phase_in exit (a.entries ++ s.log) == r) && (b && not (inside p h d a.last.next))
          then Some a.last.regs else None)) (outside d l)
          ∙ (ap (λ (o : Option Table). or_else (left_in p h d r (a.entries ++ s.log)) o)
          (none-and (phase_in exit (a.entries ++ s.log) == r) a.last.regs) ∙
          (or_else-none (left_in p h d r (a.entries ++ s.log)) ∙ left-same p formed fit h number limit lo hi clear d r l
          a.entries s.log a.each)));
      read = λ r j i l m.
          let b = slice_index (owned p.cases h) j + i in
          let high : windows_base ≤ b = let z = owned-above p h j 0 l in omega arith in
          ap (read_in p h r b) a.log
          ∙ (ap (λ (o : Option ℕ). or_else (read_in p h r b (a.entries ++ s.log)) (if phase_in exit (a.entries ++ s.log)
          == r then o else None)) (got-low h a.last.access b high a.access)
          ∙ (ap (λ (o : Option ℕ). or_else (read_in p h r b (a.entries ++ s.log)) o)
          (none-either (phase_in exit (a.entries ++ s.log) == r)) ∙
          (or_else-none (read_in p h r b (a.entries ++ s.log)) ∙ read-same p formed fit h number limit lo hi clear r b
          high a.entries s.log a.each)));
    }

    there : Small (world_of p h) t → Ready p h place q c (o + n) ms t
    there small =
        let b = steady in
        let now = now-stays p formed fit h number (a.entries ++ s.log) a.last still.from in
        record {
          hold = record {
            pc = a.leaves.pc;
            base = a.leaves.base ∙ hold.base;
            exits = a.leaves.exits ∙ hold.exits;
            fixed = λ x y. a.leaves.fixed x y ∙ hold.fixed x y;
            regs = small.regs;
            mem = small.mem;
            phase = b.phase;
            way = b.way;
            silent = b.silent;
            judged = b.judged;
            unjudged = b.unjudged;
            few = let l = lengths in omega (arith, b.few);
          };
          gathered = subst (λ (l : List Entry). IfSome (round_before p q) (λ d. Gathered p h (now_in exit l)))
              (sym a.log) (subst (λ (l : List Entry). IfSome (round_before p q) (λ d. Gathered p h l)) (sym now)
              (gathered-one p h (round_before p q) a.last (now_in exit (a.entries ++ s.log))
              (gathered-more p formed fit h number limit lo hi clear (round_before p q) a.entries s.log a.each
              ready.gathered)));
        }

  -- So it leaves the way where it was, but for the place.
  pub hop-part : {Q : State → Type 0} (s : State) → Ready p h lo q c o ms s → Told p h limit s.log
      → Takes (world_of p h) (λ t. Unit {0}) (λ t. HopsTo p h lo hi place s t × Q t) n s
      → Leads p h limit s (λ t. Q t × Ready p h place q c (o + n) ms t × Recalls p h s t × Told p h limit t.log)
  hop-part s ready told runs =
      keeps_after
      (takes_map (λ t g. g) (λ t g. (
        g.0.0.1,
        there s t ready told g.0.0.0 g.0.1 g.2,
        recalls s t ready told g.0.0.0 g.0.1,
        g.1,
      ))
      (takes_told (world_of p h) (world-low p h (formed-sizes formed)) (Told p h limit) (told-drop p h limit)
      (λ t g. (steady s t ready told g.0.0 g.1).told) (record { regs = ready.hold.regs; mem = ready.hold.mem })
      (takes_count runs)))
      (λ t g. keeps_now g)
