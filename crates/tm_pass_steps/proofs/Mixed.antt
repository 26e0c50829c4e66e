-- A part that comes to no mark, whatever its accesses are.
use Rattle.std.proofs.Common.{◌≡◌, ◌≢◌, ◌⊎◌, inl, inr, ℕ, suc, ◌+◌, ◌<◌, ◌≤◌, Bool, true, false, ◌&&◌, not, ◌==◌}
use Rattle.std.proofs.Common.{List, [], ◌∷◌, ◌++◌, length, Option, None, Some, refl, sym, ap, ◌∙◌, subst, arith}
use Rattle.std.proofs.Common.{append-nil, length-append}
use Rattle.std.specs.Prelude.{IfSome, if◌then◌else◌}
use Rattle.tm_pass_steps.proofs.Cells.{got-none}
use Rattle.tm_table.specs.declared.state.Access.{Access}
use Rattle.tm_plan_cases.specs.declared.program.Program.{Program}
use Rattle.tm_plan_map.specs.Map.{windows_base}
use Rattle.tm_plan_cases.specs.Shaped.{MasksFit}
use Rattle.tm_world.specs.Lists.{or_else, IsFront}
use Rattle.tm_world.specs.Place.{harts, case_count, start_of, end_of, exit_of, halt_of, inside}
use Rattle.tm_world.specs.Marks.{Mark, arrivals, whole_way}
use Rattle.tm_world.specs.Course.{round_before}
use Rattle.tm_world.proofs.Options.{or_else-none}
use Rattle.tm_runs.specs.Machine.{State, Entry, Table}
use Rattle.tm_runs.specs.Runs.{Takes, Within, Does, Each, Since}
use Rattle.tm_runs.specs.World.{world_of}
use Rattle.tm_runs.proofs.Ahead.{Small, takes_told, world-low}
use Rattle.tm_runs.proofs.Arrivals.{quiet-off, arrivals-none, inside-false}
use Rattle.tm_runs.proofs.Compose.{keeps_after, keeps_now, takes_map}
use Rattle.tm_runs.proofs.Split.{takes_since, takes_count}
use Rattle.tm_legal.proofs.Formed.{formed-sizes}
use Rattle.tm_legal.specs.Tame.{Formed}
use Rattle.tm_blocks_base.specs.Laws.{Uses}
use Rattle.tm_pass_way.specs.Logs.{left_in, read_in, reports}
use Rattle.tm_runs.specs.Phases.{phase_in, now_in, signals_in}
use Rattle.tm_pass_way.specs.Facts.{Fact, Told, Gathered}
use Rattle.tm_pass_way.specs.Parts.{Hold, Ready, Leads}
use Rattle.tm_pass_way.specs.Calm.{Clear, Steady, LeavesTo, IsBelow}
use Rattle.tm_pass_way.proofs.Lift.{told-drop, none-either, none-and}
use Rattle.tm_pass_way.proofs.Steady.{steady-more}

module _ (p : Program) (formed : Formed p) (fit : MasksFit p.cases p.masks) (h : ℕ) (number : h < harts p) (limit : ℕ
    → ℕ) (lo hi : ℕ) (clear : Clear p h lo hi) (A : Access → Type 0) where
  abbrev exit : ℕ
  exit = exit_of p h

  abbrev Acts : Entry → Type 0
  Acts = Does lo hi A

  apart : (a : ℕ) (e : Entry) → Acts e → (hi < a) ⊎ (a < lo) → (e.pc ≢ a) × (e.next ≢ a)
  apart a e d (inl x) = ((λ z. omega (arith, z, d.below)), (λ z. omega (arith, z, d.most)))
  apart a e d (inr x) = ((λ z. omega (arith, z, d.from)), (λ z. omega (arith, z, d.least)))

  pub off : (e : Entry) → Acts e → e.pc ≢ exit
  off e d = (apart exit e d clear.exit).0

  pub halts : (e : Entry) → Acts e → e.next ≢ halt_of p h
  halts e d = (apart (halt_of p h) e d clear.halt).1

  pub starts : (e : Entry) → Acts e → (d : ℕ) → d < case_count p → e.next ≢ start_of p h d
  starts e a d l z = by (clear.streams d l)
    where
      by : (hi < start_of p h d) ⊎ (end_of p h d ≤ lo) → ⊥
      by (inl x) = omega (arith, z, a.most)
      by (inr x) = omega (arith, z, a.least, clear.some d l)

  unmarked : (e : Entry) → Acts e → arrivals p h e.pc e.next ≡ []
  unmarked e a =
      arrivals-none p h e.pc e.next (λ d l. quiet-off p h e.pc e.next d (clear.some d l) (by d (clear.streams d l)))
      (apart exit e a clear.exit).1 (halts e a)
    where
      by : (d : ℕ) → (hi < start_of p h d) ⊎ (end_of p h d ≤ lo) → (e.next < start_of p h d) ⊎ (end_of p h d < e.next)
      by d (inl x) = inl (omega (arith, a.most))
      by d (inr x) = inr (omega (arith, a.least))

  outside : (d : ℕ) (e : Entry) → d < case_count p → Acts e → inside p h d e.pc ≡ false
  outside d e l a = inside-false p h d e.pc (by (clear.streams d l))
    where
      by : (hi < start_of p h d) ⊎ (end_of p h d ≤ lo) → (e.pc < start_of p h d) ⊎ (end_of p h d ≤ e.pc)
      by (inl x) = inl (omega (arith, a.below))
      by (inr x) = inr (omega (arith, a.from))

  pub left-through : (d r : ℕ) → d < case_count p → (es past : List Entry) → Each Acts es → left_in p h d r (es ++ past)
      ≡ left_in p h d r past
  left-through d r l [] past each = refl
  left-through d r l (e ∷ es) past each =
      ap (λ (b : Bool). or_else (left_in p h d r (es ++ past)) (if (phase_in exit (es ++ past) == r)
      && (b && not (inside p h d e.next)) then Some e.regs else None)) (outside d e l each.0)
      ∙ (ap (λ (x : Option Table). or_else (left_in p h d r (es ++ past)) x)
      (none-and (phase_in exit (es ++ past) == r) e.regs) ∙
      (or_else-none (left_in p h d r (es ++ past)) ∙ left-through d r l es past each.1))

  pub read-through : (W : ℕ → Type 0) → ((x : Access) → A x → Uses IsBelow W x) → (r b : ℕ) → windows_base ≤ b
      → (es past : List Entry) → Each Acts es → read_in p h r b (es ++ past) ≡ read_in p h r b past
  read-through W low r b l [] past each = refl
  read-through W low r b l (e ∷ es) past each =
      ap (λ (x : Option ℕ). or_else (read_in p h r b (es ++ past)) (if phase_in exit (es ++ past) == r then x
      else None)) (got-none W e.access b l (low e.access each.0.access))
      ∙ (ap (λ (x : Option ℕ). or_else (read_in p h r b (es ++ past)) x) (none-either (phase_in exit (es ++ past) == r))
      ∙ (or_else-none (read_in p h r b (es ++ past)) ∙ read-through W low r b l es past each.1))

  -- one entry more
  pub one-more : (q c o : ℕ) (ms : List Mark) (past : List Entry) (e : Entry) → Acts e → Fact p h past e
      → signals_in h e ≡ false → ((d : ℕ) → d < case_count p → reports d h e ≡ false) → suc o ≤ limit q
      → Steady p h limit q c o ms past → Steady p h limit q c (suc o) ms (e ∷ past)
  one-more q c o ms past e a fact still mute room s =
      subst (λ (ls : List Mark). Steady p h limit q c (suc o) ls (e ∷ past)) (append-nil ms)
      (steady-more p formed fit h number limit q c o ms [] past e (off e a) fact (unmarked e a)
      (subst (λ (ls : List Mark). IsFront ls (whole_way p)) (s.way ∙ sym (append-nil ms)) s.told.order) still mute
      room s)

  pub far : (es : List Entry) → Each Acts es → Each (λ (e : Entry). e.pc ≢ exit) es
  far [] each = tt
  far (e ∷ es) each = (off e each.0, far es each.1)

  pub start-steady : {q c o place : ℕ} {ms : List Mark} {s : State} → Hold p h place q c o ms s → Told p h limit s.log
      → Steady p h limit q c o ms s.log
  start-steady hold told = record {
    phase = hold.phase;
    way = hold.way;
    silent = hold.silent;
    judged = hold.judged;
    unjudged = hold.unjudged;
    few = hold.few;
    told = told;
  }

  -- What is told at the part's end gives the part of the way.
  pub mixed-part : {Q : State → Type 0} {n : ℕ} (q c o place : ℕ) (ms : List Mark) (s : State) → Hold p h lo q c o ms s
      → Takes (world_of p h) (Within lo hi A) Q n s
      → ((t : State) → Q t → (since : Since Acts s t) → length since.entries ≤ n → Steady p h limit q c (o + n) ms t.log
      × IfSome (round_before p q) (λ d. Gathered p h (now_in exit t.log)))
      → ((t : State) → Q t → LeavesTo p h place s t)
      → Leads p h limit s (λ t. Q t × Since Acts s t × Ready p h place q c (o + n) ms t × Told p h limit t.log)
  mixed-part {Q = Q} {n = n} q c o place ms s hold runs tells leaves =
      keeps_after
      (takes_map (λ t g. g) (λ t g. (g.0.0.0, g.0.0.1, behind t g.0.0.0 g.0.0.1 g.0.1 g.2, g.1))
      (takes_told (world_of p h) (world-low p h (formed-sizes formed)) (Told p h limit) (told-drop p h limit)
      (λ t g. (steady t g.0.0 g.0.1 g.1).0.told) (record { regs = hold.regs; mem = hold.mem })
      (takes_count (takes_since runs))))
      (λ t g. keeps_now g)
    where
      steady : (t : State) → Q t → Since Acts s t → length t.log ≤ length s.log + n
          → Steady p h limit q c (o + n) ms t.log × IfSome (round_before p q) (λ d. Gathered p h (now_in exit t.log))
      steady t x since few = tells t x since (omega (arith, ap length since.log, length-append since.entries s.log))

      behind : (t : State) → Q t → Since Acts s t → length t.log ≤ length s.log + n → Small (world_of p h) t
          → Ready p h place q c (o + n) ms t
      behind t x since few m =
          let a = steady t x since few in
          let b = leaves t x in
          record {
            hold = record {
              pc = b.pc;
              base = b.base ∙ hold.base;
              exits = b.exits ∙ hold.exits;
              fixed = λ f e. b.fixed f e ∙ hold.fixed f e;
              regs = m.regs;
              mem = m.mem;
              phase = a.0.phase;
              way = a.0.way;
              silent = a.0.silent;
              judged = a.0.judged;
              unjudged = a.0.unjudged;
              few = a.0.few;
            };
            gathered = a.1;
          }

  -- more room for work
  pub roomier : (q c o k : ℕ) (ms : List Mark) (log : List Entry) → o ≤ k → Steady p h limit q c o ms log
      → Steady p h limit q c k ms log
  roomier q c o k ms log l s = record {
    phase = s.phase;
    way = s.way;
    silent = s.silent;
    judged = s.judged;
    unjudged = s.unjudged;
    few = omega (arith, s.few);
    told = s.told;
  }
