-- The barrier behind the adds.
use Rattle.std.proofs.Common.{◌≡◌, ◌≢◌, ℕ, ◌+◌, ◌*◌, ◌%◌, ◌^◌, ◌<◌, ◌≤◌, List, [], ◌∷◌, ◌++◌, length}
use Rattle.std.proofs.Common.{Bool, true, false, true≢false, ◌==◌, None, ◌||◌, refl, sym, ap, ◌∙◌, subst}
use Rattle.std.proofs.Common.{arith, length-append}
use Rattle.std.specs.Prelude.{IsTrue, IfSome, Option}
use Rattle.std.proofs.lemmas.List.{append_cancel_right}
use Rattle.tm_table.specs.declared.state.Access.TheVariants.{Quiet}
use Rattle.tm_table.specs.Words.{word_of}
use Rattle.tm_table.specs.Adds.{add_of}
use Rattle.tm_base.specs.Lists.{any}
use Rattle.tm_plan_cases.specs.declared.program.Program.{Program}
use Rattle.tm_plan_map.specs.Map.{private_at}
use Rattle.tm_world.specs.Place.{harts, exit_of, end_of}
use Rattle.tm_world.specs.Course.{last_phase}
use Rattle.tm_world.specs.Writers.{case_of_phase}
use Rattle.tm_runs.specs.Machine.{Entry, State, World, get}
use Rattle.tm_runs.specs.Runs.{KeepsUntil, At, Each, Does}
use Rattle.tm_runs.specs.Course.{Story}
use Rattle.tm_runs.specs.World.{Sizes, world_of}
use Rattle.tm_runs.proofs.Tables.{at_front, at_next}
use Rattle.tm_blocks_base.specs.Instrs.{fence, go_to}
use Rattle.tm_barrier.specs.Words.{meet, barrier}
use Rattle.tm_barrier.specs.Laws.{Meeting, MeetUses, Barred, HasMet, KeepsInStep, after_fence}
use Rattle.tm_runs.specs.Phases.{signals_in}
use Rattle.tm_barrier.specs.Laws.{after_return}
use Rattle.tm_runs.specs.Phases.{Keeping, steps_in}
use Rattle.tm_barrier.specs.Course.{Comes, PassesBarrier}
use Rattle.tm_barrier.proofs.Meet.{meet_runs, fence_runs, return_runs}
use Rattle.tm_barrier.proofs.Passing.{barriers_keep}
use Rattle.tm_cells_plan.specs.declared.plan.CellPlan.{CellPlan}
use Rattle.tm_cells_world.specs.Machine.{Holds, Fetched, ByRows, adds_at}
use Rattle.tm_cells_world.specs.Shadow.{NoStreams}
use Rattle.tm_cells_world.proofs.Compose.{holds_map, holds_then, holds_keeps, holds_takes}
use Rattle.tm_cells_code.specs.Told.{Stage, stage, Plain, Quietly, Counts, Signals, Looking, Leaves, Told, More, Sofar}
use Rattle.tm_cells_code.specs.Told.{Good}
use Rattle.tm_cells_code.proofs.Tells.{told-keeping, told-exits, told-silent, steps-any}
use Rattle.tm_cells_code.proofs.Quiet.{fetched-plain, no-bounds, good-at, work-step}
use Rattle.tm_cells_code.proofs.Adding.{adding, Stands}

-- it has signalled
abbrev pub waiting : CellPlan → Stage
waiting plan = stage plan.adds 1 0 0 0

-- it has left the barrier, and loaded q cells
abbrev pub loading : CellPlan → ℕ → Stage
loading plan q = stage plan.adds 1 1 q 0

abbrev so_far : CellPlan → Bool → Stage
so_far plan true = waiting plan
so_far plan false = adding plan.adds

fence-plain : add_of (word_of fence) ≡ None
unfolding add_of word_of
fence-plain = refl

back-plain : add_of (word_of (go_to 1)) ≡ None
unfolding add_of word_of
back-plain = refl

module _ (plan : CellPlan) (p : Program) (h : ℕ) (sizes : Sizes p) (none : NoStreams p h) (mine : h < harts p)
    (first-phase : case_of_phase p 0 ≡ None) (more : 0 ≢ last_phase p) (most : ℕ) where
  abbrev w : World
  w = world_of p h

  abbrev n : ℕ
  n = harts p

  abbrev c : ℕ
  c = private_at h + 256

  low : h < 16
  low = omega (arith, mine, sizes.harts)

  -- one entry more
  one-told : (lo hi : ℕ) → hi ≤ exit_of p h → (es base : List Entry) (e : Entry) → Does lo hi (MeetUses h n c) e
      → add_of e.word ≡ None → KeepsInStep h n 1 es e → Keeping p h (es ++ base) e
      → Told plan p h (es ++ base) (so_far plan (any (signals_in h) es))
      → Told plan p h (e ∷ es ++ base) (so_far plan (signals_in h e || any (signals_in h) es))
  one-told lo hi behind es base e d plain step keep t =
      by (signals_in h e) refl (any (signals_in h) es) refl t
    where
      is-plain : Plain p h e
      is-plain = record { add = plain; off = λ z. omega (arith, z, behind, d.below) }

      by : (b : Bool) → signals_in h e ≡ b → (x : Bool) → any (signals_in h) es ≡ x
          → Told plan p h (es ++ base) (so_far plan x) → Told plan p h (e ∷ es ++ base) (so_far plan (b || x))
      by true q true z u = absurd (true≢false (sym z ∙ step.once q))
      by true q false z u = More u keep (Signals refl refl refl (step.value q) is-plain)
      by false q true z u = More u keep (Looking refl refl (step.still z) is-plain)
      by false q false z u = More u keep (Counts refl refl d.access q is-plain)

  all-told : (lo hi : ℕ) → hi ≤ exit_of p h → (es base : List Entry) → Each (Does lo hi (MeetUses h n c)) es
      → Each (Fetched w) es → Story (KeepsInStep h n 1) es → Story (Keeping p h) (es ++ base)
      → Told plan p h base (adding plan.adds) → Told plan p h (es ++ base) (so_far plan (any (signals_in h) es))
  all-told lo hi behind [] base d f steps keep t = t
  all-told lo hi behind (e ∷ es) base d f steps keep t =
      one-told lo hi behind es base e d.0 (fetched-plain p h sizes e f.0) steps.0 keep.0
      (all-told lo hi behind es base d.1 f.1 steps.1 keep.1 t)

  comes : (base : List Entry) → Told plan p h base (adding plan.adds) → Comes p h 0 base
  comes base t = record {
    phase = told-exits plan p h low t;
    silent = steps-any (signals_in h) (exit_of p h) 0 base (told-silent plan p h low t refl);
    ended = subst (λ (o : Option ℕ). IfSome o (λ c. IsTrue
        (any (λ (t : Entry). t.next == end_of p h c) (steps_in (exit_of p h) 0 base)))) (sym first-phase) tt;
    more = more;
  }

  off-all : (lo hi : ℕ) → hi ≤ exit_of p h → (es : List Entry) → Each (Does lo hi (MeetUses h n c)) es
      → Each (λ (e : Entry). e.pc ≢ exit_of p h) es
  off-all lo hi behind [] d = tt
  off-all lo hi behind (e ∷ es) d = ((λ z. omega (arith, z, behind, d.0.below)), off-all lo hi behind es d.1)

  module _ (k : ℕ) (s : State) (r : Stands plan p h s.pc (adding plan.adds) k s) (link : ℕ)
      (back : get s.regs 1 ≡ link) (even : link % 2 ≡ 0) (near : link < 2 ^ 64) (meeting : Meeting w h n c)
      (exit : s.pc + 4 * length (meet h n) + 4 ≡ exit_of p h) (at : At w.text s.pc (barrier h n))
      (room : k + 9 + 2 * n ≤ most) where
    abbrev lo : ℕ
    lo = s.pc

    abbrev hi : ℕ
    hi = s.pc + 4 * length (meet h n)

    behind : hi ≤ exit_of p h
    behind = omega (arith, exit)

    abbrev G : State → Type 0
    G t = Good plan p h most t.log

    passes : (t : State) (g : Barred lo hi h n c 1 s t) → PassesBarrier p h 0 s.log g.entries
    passes t g = barriers_keep p h 0 s.log g.entries mine (comes s.log r.sofar.told)
        (told-keeping plan p h low r.sofar.told) g.story (off-all lo hi behind g.entries g.each)

    fetched : (t : State) (g : Barred lo hi h n c 1 s t) → ByRows w s t → Each (Fetched w) g.entries
    fetched t g b = subst (Each (Fetched w)) (append_cancel_right b.entries g.entries s.log (sym b.log ∙ g.log)) b.each

    so-met : (t : State) (g : Barred lo hi h n c 1 s t) → ByRows w s t
        → Sofar plan p h (so_far plan (any (signals_in h) g.entries)) (k + 7 + 2 * n) t.log
    so-met t g b =
        let pass = passes t g in
        subst (λ (log : List Entry). Sofar plan p h (so_far plan (any (signals_in h) g.entries)) (k + 7 + 2 * n) log)
        (sym g.log) (record {
          told = all-told lo hi behind g.entries s.log g.each (fetched t g b) g.story pass.story r.sofar.told;
          few = omega (arith, pass.work, g.work, r.sofar.few);
        })

    met-runs : KeepsUntil w (Barred lo hi h n c 1 s) (HasMet lo hi h n c 1 s) s
    unfolding barrier
    met-runs =
        let code = at_front w.text s.pc (meet h n) (fence ∷ [])
        (at_front w.text s.pc (meet h n ++ (fence ∷ [])) (go_to 1 ∷ []) at) in
        let m : s.mem c + 1 ≡ 1 = omega (arith, r.count) in
        subst (λ (x : ℕ). KeepsUntil w (Barred lo hi h n c x s) (HasMet lo hi h n c x s) s) m
        (meet_runs h n w s c meeting (ap (λ (x : ℕ). x + 256) r.area) (omega arith) code)

    -- behind the barrier
    pub record Through (t : State) : Type 0 where
      pub pc : t.pc ≡ link
      pub sofar : Sofar plan p h (loading plan 0) (k + 9 + 2 * n) t.log

    module _ (u : State) (m : HasMet lo hi h n c 1 s u) (b : ByRows w s u) where
      abbrev f : State
      f = after_fence u

      abbrev last : Entry
      last = record { pc = u.pc; next = u.pc + 4; word = word_of fence; access = Quiet; regs = get u.regs }

      abbrev t : State
      t = after_return link f

      abbrev way-back : Entry
      way-back = record { pc = u.pc + 4; next = link; word = word_of (go_to 1); access = Quiet; regs = get t.regs }

      here : u.pc + 4 ≡ exit_of p h
      here = omega (arith, m.pc, exit)

      off : u.pc ≢ exit_of p h
      off z = omega (arith, here, z)

      so1 : Sofar plan p h (waiting plan) (k + 7 + 2 * n) u.log
      so1 = subst (λ (x : Bool). Sofar plan p h (so_far plan x) (k + 7 + 2 * n) u.log) m.signalled
          (so-met u m.barred b)

      so2 : Sofar plan p h (waiting plan) (k + 8 + 2 * n) f.log
      so2 = record {
        told = More so1.told (subst (λ (log : List Entry). Keeping p h log last) (sym m.barred.log)
            ((passes u m.barred).fence last refl off)) (Quietly refl (record { add = fence-plain; off = off }));
        few = omega (arith, so1.few, work-step p h last u.log);
      }

      so3 : Sofar plan p h (loading plan 0) (k + 9 + 2 * n) t.log
      so3 = record {
        told = More so2.told (subst (λ (log : List Entry). Keeping p h (last ∷ log) way-back) (sym m.barred.log)
            ((passes u m.barred).back way-back last refl refl off m.signalled m.met))
            (Leaves refl refl refl back-plain here);
        few = omega (arith, so2.few, work-step p h way-back f.log);
      }

      returns : At w.text f.pc (go_to 1 ∷ []) → Holds w (adds_at p) G Through f
      returns code =
          holds_map (λ x e. subst G (sym e.0) (good-at plan p h sizes none most (k + 9 + 2 * n) (loading plan 0) t.log
          (omega (arith, room)) so3)) (λ x e. subst Through (sym e.0) (record { pc = refl; sofar = so3 }))
          (holds_takes (no-bounds p h none) (return_runs w f link code (m.regs 1 (omega arith) (omega arith) (omega arith)
          ∙ back) even near))

      pub from-fence : At w.text u.pc (fence ∷ []) → At w.text f.pc (go_to 1 ∷ []) → Holds w (adds_at p) G Through u
      from-fence code next =
          holds_then (holds_map (λ x e. subst G (sym e.0) (good-at plan p h sizes none most (k + 8 + 2 * n)
          (waiting plan) f.log (omega (arith, room)) so2)) (λ x e. e.0)
          (holds_takes (no-bounds p h none) (fence_runs w u code)))
          (λ x e. subst (Holds w (adds_at p) G Through) (sym e) (returns next))

    pub met : Holds w (adds_at p) G Through s
    unfolding barrier
    met =
        let body = meet h n in
        let code = at_front w.text s.pc (body ++ (fence ∷ [])) (go_to 1 ∷ []) at in
        holds_then (holds_map (λ t g. good-at plan p h sizes none most (k + 7 + 2 * n) _ t.log (omega (arith, room))
        (so-met t g.0 g.1)) (λ t g. g) (holds_keeps (no-bounds p h none) met-runs)) (λ u m.
        let long : length (body ++ (fence ∷ [])) ≡ length body + 1 = length-append body (fence ∷ []) in
        from-fence u m.0 m.1 (at_next w.text s.pc u.pc body (fence ∷ []) (length body) refl m.0.pc code)
        (at_next w.text s.pc (u.pc + 4) (body ++ (fence ∷ [])) (go_to 1 ∷ []) (length body + 1) long
        (omega (arith, m.0.pc)) at))
