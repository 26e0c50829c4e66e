-- From what the run law of a calm block says to what the way asks of its part.
use Rattle.std.proofs.Common.{◌≡◌, ◌≢◌, ◌⊎◌, inl, inr, ℕ, ◌+◌, ◌-◌, ◌<◌, ◌≤◌, Bool, true, false, ◌&&◌, not, ◌==◌}
use Rattle.std.proofs.Common.{List, [], ◌∷◌, ◌++◌, length, Option, None, Some, refl, sym, ap, ◌∙◌, subst, arith}
use Rattle.std.proofs.Common.{append_assoc, length-append}
use Rattle.std.specs.Prelude.{slice_index, slice_index_or, IsTrue, IfSome, if◌then◌else◌}
use Rattle.std.proofs.lemmas.Bool.{or_right}
use Rattle.tm_table.specs.declared.state.Access.{Access}
use Rattle.tm_table.specs.declared.state.Access.TheVariants.{Quiet, Read, Write}
use Rattle.tm_plan_cases.specs.declared.program.Program.{Program}
use Rattle.tm_plan_map.specs.Map.{windows_base}
use Rattle.tm_plan_map.proofs.Within.{within-false}
use Rattle.tm_plan_cases.specs.Collected.{owned}
use Rattle.tm_base.specs.Lists.{any}
use Rattle.tm_plan_cases.specs.Shaped.{MasksFit}
use Rattle.tm_world.specs.Lists.{or_else}
use Rattle.tm_world.specs.Place.{harts, case_count, start_of, end_of, exit_of, inside, byte_of}
use Rattle.tm_world.specs.Run.{got}
use Rattle.tm_world.specs.Kinds.{stream_at}
use Rattle.tm_world.specs.Marks.{Mark, arrivals}
use Rattle.tm_world.specs.Course.{round_before, reads_in}
use Rattle.tm_world.proofs.Options.{or_else-none}
use Rattle.tm_runs.specs.Machine.{State, Entry, Table}
use Rattle.tm_runs.specs.Runs.{Takes, Within, Does, Each, Since}
use Rattle.tm_runs.specs.World.{world_of}
use Rattle.tm_runs.specs.Course.{trail}
use Rattle.tm_runs.proofs.Arrivals.{inside-false}
use Rattle.tm_runs.proofs.Split.{takes_since, takes_count}
use Rattle.tm_runs.proofs.Compose.{keeps_after, keeps_now, takes_map}
use Rattle.tm_legal.proofs.Formed.{formed-sizes}
use Rattle.tm_legal.specs.Tame.{Formed}
use Rattle.tm_stays.specs.Stays.{one_outside}
use Rattle.tm_pass_way.specs.Logs.{left_in, read_in, work_in}
use Rattle.tm_runs.specs.Phases.{phase_in, now_in, lately_at}
use Rattle.tm_pass_way.specs.Facts.{Told, Gathered}
use Rattle.tm_pass_way.specs.Parts.{Hold, Ready, Leads}
use Rattle.tm_pass_way.specs.Calm.{Clear, Steady, LeavesTo, Recalls}
use Rattle.tm_runs.proofs.Ahead.{Small, takes_told, world-low}
use Rattle.tm_pass_way.proofs.Calm.{IsCalm, steady-part, now-stays}
use Rattle.tm_plan_owned.proofs.Collected.{owned-above}

-- ---- what a log told before its newest entry

outside-less : (o : Option ℕ) (n : ℕ) → n ≤ one_outside o n
outside-less None n = omega arith
outside-less (Some c) n = omega arith

work-less : (p : Program) (h r : ℕ) (e : Entry) (past : List Entry) → work_in p h r past ≤ work_in p h r (e ∷ past)
work-less p h r e past = by (lately_at p h 4 (e ∷ past)) (phase_in (exit_of p h) past == r)
  where
    by : (a b : Bool) → work_in p h r past ≤ (if a then work_in p h r past
        else (if b then one_outside (stream_at p h e.pc) (work_in p h r past) else work_in p h r past))
    by true b = omega arith
    by false true = outside-less (stream_at p h e.pc) (work_in p h r past)
    by false false = omega arith

pub told-drop : (p : Program) (h : ℕ) (limit : ℕ → ℕ) (e : Entry) (past : List Entry) → Told p h limit (e ∷ past)
    → Told p h limit past
told-drop p h limit e past t = record {
  order = let ms = arrivals p h e.pc e.next in
      (ms ++ t.order.0, t.order.1 ∙ append_assoc (trail (arrivals p h) past) ms t.order.0);
  story = t.story.1;
  pace = λ r. let l = work-less p h r e past in let m = t.pace r in omega arith;
}

pub none-either : {A : Type 0} (b : Bool) → ◌≡◌ {A = Option A} (if b then None else None) None
none-either true = refl
none-either false = refl

pub none-and : {A : Type 0} (b : Bool) (x : A) → ◌≡◌ {A = Option A} (if b && false then Some x else None) None
none-and true x = refl
none-and false x = refl

pub got-low : (h : ℕ) (x : Access) (b : ℕ) → windows_base ≤ b → IsCalm h x → got x b ≡ None
got-low h Quiet b l u = refl
got-low h (Write addr width v) b l u = refl
got-low h (Read addr width v) b l u = ap (λ (t : Bool). if t then Some (byte_of v (b - addr))
    else None) (within-false addr width b (inr (let w = u.0 in let m = u.1 in omega arith)))

module _ (p : Program) (formed : Formed p) (fit : MasksFit p.cases p.masks) (h : ℕ) (number : h < harts p) (limit : ℕ
    → ℕ) (lo hi : ℕ) (clear : Clear p h lo hi) where
  abbrev exit : ℕ
  exit = exit_of p h

  pub outside : (c : ℕ) (e : Entry) → c < case_count p → Does lo hi (IsCalm h) e → inside p h c e.pc ≡ false
  outside c e l d = inside-false p h c e.pc (by (clear.streams c l))
    where
      by : (hi < start_of p h c) ⊎ (end_of p h c ≤ lo) → (e.pc < start_of p h c) ⊎ (end_of p h c ≤ e.pc)
      by (inl x) = inl (omega (arith, d.below))
      by (inr x) = inr (omega (arith, d.from))

  pub left-same : (c q : ℕ) → c < case_count p → (es past : List Entry) → Each (Does lo hi (IsCalm h)) es
      → left_in p h c q (es ++ past) ≡ left_in p h c q past
  left-same c q l [] past h' = refl
  left-same c q l (e ∷ es) past each =
      ap (λ (b : Bool). or_else (left_in p h c q (es ++ past)) (if (phase_in exit (es ++ past) == q)
      && (b && not (inside p h c e.next)) then Some e.regs else None)) (outside c e l each.0)
      ∙ (ap (λ (o : Option Table). or_else (left_in p h c q (es ++ past)) o) (by (phase_in exit (es ++ past) == q)) ∙
      (or_else-none (left_in p h c q (es ++ past)) ∙ left-same c q l es past each.1))
    where
      by : (b : Bool) → (if b && false then Some e.regs else None) ≡ None
      by true = refl
      by false = refl

  pub read-same : (q b : ℕ) → windows_base ≤ b → (es past : List Entry) → Each (Does lo hi (IsCalm h)) es
      → read_in p h q b (es ++ past) ≡ read_in p h q b past
  read-same q b l [] past each = refl
  read-same q b l (e ∷ es) past each =
      ap (λ (o : Option ℕ). or_else (read_in p h q b (es ++ past)) (if phase_in exit (es ++ past) == q then o
      else None)) (got-low h e.access b l each.0.access)
      ∙ (ap (λ (o : Option ℕ). or_else (read_in p h q b (es ++ past)) o) (none-either (phase_in exit (es ++ past) == q))
      ∙ (or_else-none (read_in p h q b (es ++ past)) ∙ read-same q b l es past each.1))

  pub recalls : (s t : State) → Since (Does lo hi (IsCalm h)) s t → Recalls p h s t
  recalls s t since = record {
    left = λ c q l. ap (left_in p h c q) since.log ∙ left-same c q l since.entries s.log since.each;
    read = λ q j i l m. let b = slice_index (owned p.cases h) j + i in
        ap (read_in p h q b) since.log ∙ read-same q b (let k = owned-above p h j 0 l in
        omega arith) since.entries s.log since.each;
  }

  -- the phase's entries are those before and the part's
  pub now-more : (es past : List Entry) → Each (Does lo hi (IsCalm h)) es → now_in exit (es ++ past)
      ≡ es ++ now_in exit past
  now-more [] past each = refl
  now-more (e ∷ es) past each =
      now-stays p formed fit h number (es ++ past) e (by clear.exit) ∙ ap (λ (l : List Entry). e ∷ l)
      (now-more es past each.1)
    where
      by : (hi < exit) ⊎ (exit < lo) → e.pc ≢ exit
      by (inl x) z = omega (arith, z, each.0.below)
      by (inr x) z = omega (arith, z, each.0.from)

  pub any-more : (f : Entry → Bool) (es past : List Entry) → any f past ≡ true → any f (es ++ past) ≡ true
  any-more f [] past e = e
  any-more f (x ∷ es) past e = or_right (f x) (any f (es ++ past)) (any-more f es past e)

  pub gathered-more : (o : Option ℕ) (es past : List Entry) → Each (Does lo hi (IsCalm h)) es
      → IfSome o (λ d. Gathered p h (now_in exit past)) → IfSome o (λ d. Gathered p h (now_in exit (es ++ past)))
  gathered-more None es past each g = tt
  gathered-more (Some d) es past each g =
      λ k e l. subst
      (λ (ls : List Entry). IsTrue (any (λ (t : Entry). reads_in (slice_index_or (owned p.cases h) k e) 8 t.access) ls))
      (sym (now-more es past each))
      (any-more (λ (t : Entry). reads_in (slice_index_or (owned p.cases h) k e) 8 t.access) es (now_in exit past)
      (g k e l))

  -- A calm block's run law gives its part of the way.
  pub calm-part : {Q : State → Type 0} {n : ℕ} (q c o place : ℕ) (ms : List Mark) (s : State) → c ≤ case_count p
      → o + n ≤ limit q → Ready p h lo q c o ms s → Told p h limit s.log
      → Takes (world_of p h) (Within lo hi (IsCalm h)) Q n s → ((t : State) → Q t → LeavesTo p h place s t)
      → Leads p h limit s (λ t. Q t × Ready p h place q c (o + n) ms t × Recalls p h s t × Told p h limit t.log)
  calm-part {Q = Q} {n = n} q c o place ms s l room ready told runs leaves =
      keeps_after
      (takes_map (λ t g. g) (λ t g. (g.0.0.0, behind t g.0.0.0 g.0.0.1 g.0.1 g.2, recalls s t g.0.0.1, g.1))
      (takes_told (world_of p h) (world-low p h (formed-sizes formed)) (Told p h limit) (told-drop p h limit)
      (λ t g. (steady t g.0.1 g.1).told) small (takes_count (takes_since runs))))
      (λ t g. keeps_now g)
    where
      hold : Hold p h lo q c o ms s
      hold = ready.hold

      small : Small (world_of p h) s
      small = record { regs = hold.regs; mem = hold.mem }

      start : Steady p h limit q c o ms s.log
      start = record {
        phase = hold.phase;
        way = hold.way;
        silent = hold.silent;
        judged = hold.judged;
        unjudged = hold.unjudged;
        few = hold.few;
        told = told;
      }

      steady : (t : State) (since : Since (Does lo hi (IsCalm h)) s t) → length t.log ≤ length s.log + n
          → Steady p h limit q c (o + length since.entries) ms t.log
      steady t since few =
          subst (λ (log : List Entry). Steady p h limit q c (o + length since.entries) ms log) (sym since.log)
          (steady-part p formed fit h number limit lo hi clear q c o n ms since.entries s.log l
          (omega (arith, ap length since.log, length-append since.entries s.log)) room since.each start)

      behind : (t : State) → Q t → (since : Since (Does lo hi (IsCalm h)) s t) → length t.log ≤ length s.log + n
          → Small (world_of p h) t → Ready p h place q c (o + n) ms t
      behind t x since few m =
          let a = steady t since few in
          let b = leaves t x in
          let k : length since.entries ≤ n = omega (arith, ap length since.log, length-append since.entries s.log) in
          record {
            hold = record {
              pc = b.pc;
              base = b.base ∙ hold.base;
              exits = b.exits ∙ hold.exits;
              fixed = λ f e. b.fixed f e ∙ hold.fixed f e;
              regs = m.regs;
              mem = m.mem;
              phase = a.phase;
              way = a.way;
              silent = a.silent;
              judged = a.judged;
              unjudged = a.unjudged;
              few = omega (arith, a.few);
            };
            gathered = subst (λ (log : List Entry). IfSome (round_before p q) (λ d. Gathered p h (now_in exit log)))
                (sym since.log) (gathered-more (round_before p q) since.entries s.log since.each ready.gathered);
          }
