-- A barrier as a part of a hart's way: it comes to the exit mark, and every entry keeps what a log tells.
use Rattle.std.proofs.Common.{◌≡◌, ◌≢◌, ℕ, suc, ◌+◌, ◌*◌, ◌%◌, ◌^◌, ◌<◌, ◌≤◌, List, [], ◌∷◌, ◌++◌, length, Bool, true}
use Rattle.std.proofs.Common.{false, ◌⊎◌, inl, inr, refl, sym, ap, ap₂, ◌∙◌, subst, arith, append-nil, length-append}
use Rattle.std.specs.Prelude.{if◌then◌else◌}
use Rattle.tm_table.specs.declared.state.Access.TheVariants.{Quiet}
use Rattle.tm_table.specs.Words.{word_of}
use Rattle.tm_plan_cases.specs.declared.program.Program.{Program}
use Rattle.tm_plan_map.specs.Map.{flag_at}
use Rattle.tm_world.specs.Place.{harts, exit_of}
use Rattle.tm_world.specs.Marks.{Mark, Exit}
use Rattle.tm_runs.specs.Machine.{World, State, Entry, put, get}
use Rattle.tm_runs.specs.Runs.{KeepsUntil, At, Each, Does}
use Rattle.tm_runs.specs.Course.{trail, Story, Sofar, Good}
use Rattle.tm_runs.proofs.Compose.{keeps_after, keeps_then, keeps_map, keeps_now, takes_map}
use Rattle.tm_runs.proofs.Tables.{get_put_zero, at_front, at_next}
use Rattle.tm_blocks_base.specs.Instrs.{fence, go_to}
use Rattle.tm_barrier.specs.Words.{meet, barrier}
use Rattle.tm_barrier.specs.Laws.{Meeting, MeetUses, Barred, HasMet, after_fence, after_return}
use Rattle.tm_barrier.specs.Course.{work_at, Comes, PassesBarrier}
use Rattle.tm_runs.specs.Phases.{Keeping}
use Rattle.tm_runs.proofs.Story.{each-map, story-map}
use Rattle.tm_barrier.proofs.Meet.{meet_runs, fence_runs, return_runs}
use Rattle.tm_barrier.proofs.Passing.{barriers_keep}

work-step : (p : Program) (h : ℕ) (e : Entry) (log : List Entry) → work_at p h (e ∷ log) ≤ suc (work_at p h log)
work-step p h e log = by _
  where
    by : (b : Bool) → (if b then work_at p h log else suc (work_at p h log)) ≤ suc (work_at p h log)
    by true = omega arith
    by false = omega arith

story-join : (E : Entry → Type 0) (F G : List Entry → Entry → Type 0)
    → ((past : List Entry) (e : Entry) → E e → F past e → G past e) → (es base : List Entry) → Each E es
    → Story F (es ++ base) → Story G base → Story G (es ++ base)
story-join E F G f [] base a b c = c
story-join E F G f (e ∷ es) base a b c = (f (es ++ base) e a.0 b.0, story-join E F G f es base a.1 b.1 c)

module _ (w : World) (p : Program) (h c q link : ℕ) (arrive : ℕ → ℕ → List Mark) (F : List Entry → Entry
    → Type 0) (keeps : (past : List Entry) (e : Entry) → F past e → Keeping p h past e) (way ms rest : List Mark)
    (most k : ℕ) (s : State)
    (meeting : Meeting w h (harts p) c) (base : get s.regs 31 + 256 ≡ c) (count : s.mem c ≡ q) (small : q + 1 < 2 ^ 64)
    (back : get s.regs 1 ≡ link) (even : link % 2 ≡ 0) (near : link < 2 ^ 64)
    (exit : s.pc + 4 * length (meet h (harts p)) + 4 ≡ exit_of p h) (at : At w.text s.pc (barrier h (harts p)))
    (none : (from to : ℕ) → s.pc ≤ from → from < s.pc + 4 * length (meet h (harts p)) → s.pc < to
    → to ≤ s.pc + 4 * length (meet h (harts p)) → arrive from to ≡ [])
    (leaves : arrive (exit_of p h) link ≡ []) (comes : (from : ℕ) → arrive from (exit_of p h) ≡ Exit ∷ [])
    (inside : (past : List Entry) (e : Entry)
    → Does s.pc (s.pc + 4 * length (meet h (harts p))) (MeetUses h (harts p) c) e
    → Keeping p h past e → F past e)
    (quiet : (past : List Entry) (e : Entry) → e.access ≡ Quiet → (e.next ≡ exit_of p h) ⊎ (e.next ≡ link)
    → Keeping p h past e → F past e)
    (front : way ≡ ms ++ (Exit ∷ rest)) (behind : way ≡ (ms ++ Exit ∷ []) ++ rest) (bound : k + 9 + 2 * harts p ≤ most)
  where
    abbrev lo : ℕ
    lo = s.pc

    abbrev hi : ℕ
    hi = s.pc + 4 * length (meet h (harts p))

    abbrev n : ℕ
    n = harts p

    abbrev size : List Entry → ℕ
    size = work_at p h

    abbrev Told : State → Type 0
    Told t = Good arrive F size way most t.log

    trail-same : (es log : List Entry) → Each (Does lo hi (MeetUses h n c)) es → trail arrive (es ++ log)
        ≡ trail arrive log
    trail-same [] log d = refl
    trail-same (e ∷ es) log d = ap₂ (λ (x y : List Mark). x ++ y) (trail-same es log d.1)
        (none e.pc e.next d.0.from d.0.below d.0.least d.0.most) ∙ append-nil (trail arrive log)

    off : (e : Entry) → Does lo hi (MeetUses h n c) e → e.pc ≢ exit_of p h
    off e d = λ z. omega (arith, d.below, exit)

    passes : Comes p h q s.log → Story F s.log → (t : State) (g : Barred lo hi h n c (q + 1) s t)
        → PassesBarrier p h q s.log g.entries
    passes coming story t g =
        barriers_keep p h q s.log g.entries meeting.mine coming (story-map F (Keeping p h) keeps s.log story) g.story
        (each-map off g.entries g.each)

    -- up to the last fence
    unfoldable so-far : Comes p h q s.log → Sofar arrive F size ms k s.log → (t : State)
        → Barred lo hi h n c (q + 1) s t
        → Sofar arrive F size ms (k + (7 + 2 * n)) t.log
    so-far coming so t g =
        let pass = passes coming so.story t g in
        let here : Sofar arrive F size ms (k + (7 + 2 * n)) (g.entries ++ s.log) = record {
          way = trail-same g.entries s.log g.each ∙ so.way;
          story = story-join (Does lo hi (MeetUses h n c))
              (Keeping p h) F inside g.entries s.log g.each pass.story so.story;
          few = omega (arith, pass.work, g.work, so.few);
        } in
        subst (λ (log : List Entry). Sofar arrive F size ms (k + (7 + 2 * n)) log) (sym g.log) here

    good : (ns more : List Mark) (j : ℕ) (log : List Entry) → way ≡ ns ++ more → j ≤ most → Sofar arrive F size ns j log
        → Good arrive F size way most log
    good ns more j log e l so = record {
      marks = ns;
      rest = more;
      front = e;
      sofar = record { way = so.way; story = so.story; few = omega (arith, so.few) };
    }

    pub record Through (t : State) : Type 0 where
      pub pc : t.pc ≡ link
      pub sofar : Sofar arrive F size (ms ++ Exit ∷ []) (k + 9 + 2 * n) t.log
      pub regs : (r : ℕ) → r ≢ 2 → r ≢ 3 → r ≢ 4 → get t.regs r ≡ get s.regs r
      pub mem : t.mem ≡ put (put s.mem c (q + 1)) (flag_at h) (q + 1)

    met-runs : KeepsUntil w (Barred lo hi h n c (q + 1) s) (HasMet lo hi h n c (q + 1) s) s
    unfolding barrier
    met-runs =
        let code = at_front w.text s.pc (meet h n) (fence ∷ [])
        (at_front w.text s.pc (meet h n ++ (fence ∷ [])) (go_to 1 ∷ []) at) in
        let m : s.mem c + 1 ≡ q + 1 = omega (arith, count) in
        subst (λ (x : ℕ). KeepsUntil w (Barred lo hi h n c x s) (HasMet lo hi h n c x s) s) m
        (meet_runs h n w s c meeting base (omega arith) code)

    -- from the last fence on
    module _ (coming : Comes p h q s.log) (so : Sofar arrive F size ms k s.log) (u : State)
        (m : HasMet lo hi h n c (q + 1) s u) where
      abbrev f : State
      f = after_fence u

      abbrev last : Entry
      last = record { pc = u.pc; next = u.pc + 4; word = word_of fence; access = Quiet; regs = get u.regs }

      abbrev r : State
      r = after_return link f

      abbrev way-back : Entry
      way-back = record { pc = u.pc + 4; next = link; word = word_of (go_to 1); access = Quiet; regs = get r.regs }

      pass : PassesBarrier p h q s.log m.barred.entries
      pass = passes coming so.story u m.barred

      here : u.pc + 4 ≡ exit_of p h
      here = omega (arith, m.pc, exit)

      off-exit : u.pc ≢ exit_of p h
      off-exit = λ z. omega (arith, here, z)

      so1 : Sofar arrive F size ms (k + (7 + 2 * n)) u.log
      so1 = so-far coming so u m.barred

      keep-last : Keeping p h u.log last
      keep-last = subst (λ (log : List Entry). Keeping p h log last) (sym m.barred.log) (pass.fence last refl off-exit)

      so2 : Sofar arrive F size (ms ++ Exit ∷ []) (k + 8 + 2 * n) f.log
      so2 = record {
        way = ap₂ (λ (x y : List Mark). x ++ y) so1.way (ap (arrive u.pc) here ∙ comes u.pc);
        story = (quiet u.log last refl (inl here) keep-last, so1.story);
        few = omega (arith, so1.few, work-step p h last u.log);
      }

      keep-back : Keeping p h (last ∷ u.log) way-back
      keep-back = subst (λ (log : List Entry). Keeping p h (last ∷ log) way-back) (sym m.barred.log)
          (pass.back way-back last refl refl off-exit m.signalled m.met)

      so3 : Sofar arrive F size (ms ++ Exit ∷ []) (k + 9 + 2 * n) r.log
      so3 = record {
        way = ap₂ (λ (x y : List Mark). x ++ y) so2.way (ap (λ (x : ℕ). arrive x link) here ∙ leaves) ∙ append-nil (ms
            ++ Exit ∷ []);
        story = (quiet f.log way-back refl (inr refl) keep-back, so2.story);
        few = omega (arith, so2.few, work-step p h way-back f.log);
      }

      through : Through r
      through = record {
        pc = refl;
        sofar = so3;
        regs = λ x n2 n3 n4. get_put_zero u.regs (f.pc + 4) x ∙ m.regs x n2 n3 n4;
        mem = m.mem ∙ ap (λ (x : ℕ). put (put s.mem c (q + 1)) (flag_at h) x) refl;
      }

      returns : At w.text f.pc (go_to 1 ∷ []) → KeepsUntil w Told Through f
      returns code =
          keeps_after (takes_map (λ x e. subst Told (sym e)
          (good (ms ++ Exit ∷ []) rest (k + 9 + 2 * n) r.log behind bound so3)) (λ x e. e)
          (return_runs w f link code (m.regs 1 (omega arith) (omega arith) (omega arith) ∙ back) even near))
          (λ x e. keeps_now (subst Through (sym e) through))

      pub from-fence : At w.text u.pc (fence ∷ []) → At w.text f.pc (go_to 1 ∷ []) → KeepsUntil w Told Through u
      from-fence code next =
          keeps_after (takes_map (λ x e. subst Told (sym e) (good (ms ++ Exit ∷ []) rest (k + 8 + 2 * n) f.log behind
          (omega arith) so2)) (λ x e. e) (fence_runs w u code))
          (λ x e. subst (KeepsUntil w Told Through) (sym e) (returns next))

    pub barrier_way : Comes p h q s.log → Sofar arrive F size ms k s.log → KeepsUntil w Told Through s
    unfolding barrier
    barrier_way coming so =
        let body = meet h n in
        let code = at_front w.text s.pc (body ++ (fence ∷ [])) (go_to 1 ∷ []) at in
        keeps_then (keeps_map (λ t g. good ms (Exit ∷ rest) (k + (7 + 2 * n)) t.log front (omega arith)
        (so-far coming so t g)) (λ t g. g) met-runs) (λ u m.
        let long : length (body ++ (fence ∷ [])) ≡ length body + 1 = length-append body (fence ∷ []) in
        from-fence coming so u m (at_next w.text s.pc u.pc body (fence ∷ []) (length body) refl m.pc code)
        (at_next w.text s.pc (u.pc + 4) (body ++ (fence ∷ [])) (go_to 1 ∷ []) (length body + 1) long
        (omega (arith, m.pc)) at))
