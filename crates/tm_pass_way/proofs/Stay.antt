-- A whole stay in a stream.
use Rattle.std.proofs.Common.{◌≡◌, ◌≢◌, ◌⊎◌, inl, inr, ℕ, ◌+◌, ◌*◌, ◌^◌, ◌<◌, ◌≤◌, Bool, true, false, ◌&&◌, ◌||◌, not}
use Rattle.std.proofs.Common.{◌==◌, eq-eqb, ne_eqb, List, [], ◌∷◌, ◌++◌, Option, None, Some, refl, sym, ap, ap₂, ◌∙◌}
use Rattle.std.proofs.Common.{subst, arith, append-nil}
use Rattle.std.specs.Prelude.{IsTrue, if◌then◌else◌}
use Rattle.std.proofs.lemmas.Bool.{cases_lt, or_right}
use Rattle.tm_plan_cases.specs.declared.program.Program.{Program}
use Rattle.tm_plan_map.specs.Map.{private_at, private_size, save_at}
use Rattle.tm_base.specs.Lists.{any}
use Rattle.tm_plan_cases.specs.Shaped.{MasksFit}
use Rattle.tm_world.specs.Lists.{or_else, IsFront}
use Rattle.tm_world.specs.Place.{harts, case_count, passes, start_of, end_of, exit_of, inside}
use Rattle.tm_world.specs.Run.{got}
use Rattle.tm_world.specs.Marks.{Mark, End, arrivals, whole_way}
use Rattle.tm_world.specs.Course.{round_before}
use Rattle.tm_world.specs.Verdict.{saved}
use Rattle.tm_world.proofs.Options.{or_else-none}
use Rattle.tm_runs.specs.Machine.{World, State, Entry, Table, Strays, get}
use Rattle.tm_runs.specs.World.{world_of, is_fixed_dword, is_private_dword}
use Rattle.tm_runs.specs.Course.{trail, Story}
use Rattle.tm_runs.proofs.Arrivals.{inside-true, inside-false}
use Rattle.tm_runs.proofs.Worlds.{private-dword}
use Rattle.tm_runs.proofs.Compose.{keeps_map, keeps_stream}
use Rattle.tm_legal.specs.Tame.{Formed}
use Rattle.tm_pass_way.specs.Logs.{left_in, read_in, reports, work_in}
use Rattle.tm_runs.specs.Phases.{phase_in, now_in, signals_in}
use Rattle.tm_pass_way.specs.Facts.{Fact, Told}
use Rattle.tm_pass_way.specs.Parts.{Hold, Stayed, Leads}
use Rattle.tm_pass_way.specs.Calm.{StreamClear}
use Rattle.tm_pass_way.proofs.Calm.{phase-stays, now-stays}
use Rattle.tm_pass_way.proofs.Stream.{held-bounds, Strolls, strolls, stroll-fact, mark-in, mark-end, work-same}
use Rattle.tm_pass_way.proofs.Stream.{no-exit, not-flag, not-reports}

module _ (p : Program) (formed : Formed p) (fit : MasksFit p.cases p.masks) (h : ℕ) (number : h < harts p) (limit : ℕ
    → ℕ) (c : ℕ) (here : c < case_count p) (clear : StreamClear p h c) (q d o : ℕ) (ms : List Mark)
    (odd : round_before p q ≡ None) (few : d ≤ case_count p) (room : o ≤ limit q)
    (ahead : IsFront (ms ++ End c ∷ []) (whole_way p)) (s : State) (memory : saved p h ≤ 1022) (areas : passes p ≤ 15)
  where
    abbrev exit : ℕ
    exit = exit_of p h

    abbrev lo : ℕ
    lo = start_of p h c

    abbrev hi : ℕ
    hi = end_of p h c

    abbrev w : World
    w = world_of p h

    -- what is so at each step of the stay
    record In (t : State) : Type 0 where
      base : get t.regs 31 ≡ private_at h
      own : (a : ℕ) → IsTrue (w.own a) → t.mem a ≡ s.mem a
      regs : (r : ℕ) → get t.regs r < 2 ^ 64
      phase : phase_in exit t.log ≡ q
      silent : any (signals_in h) (now_in exit t.log) ≡ false
      judged : (e : ℕ) → e < d → any (reports e h) t.log ≡ true
      unjudged : (e : ℕ) → d ≤ e → e < case_count p → any (reports e h) t.log ≡ false
      work : (r : ℕ) → work_in p h r t.log ≡ work_in p h r s.log
      told : Told p h limit t.log
      others : (e j : ℕ) → e < case_count p → j ≢ q → left_in p h e j t.log ≡ left_in p h e j s.log
      read : (j b : ℕ) → j ≢ q → read_in p h j b t.log ≡ read_in p h j b s.log

    -- where it is
    record Going (t : State) : Type 0 where
      below : t.pc < hi
      way : trail (arrivals p h) t.log ≡ ms
      left : left_in p h c q t.log ≡ left_in p h c q s.log

    record Gone (t : State) : Type 0 where
      at : t.pc ≡ hi
      way : trail (arrivals p h) t.log ≡ ms ++ End c ∷ []
      registers : Table
      are : (r : ℕ) → registers r ≡ get t.regs r
      ended : any (λ (e : Entry). e.next == hi) (now_in exit t.log) ≡ true
      left : left_in p h c q t.log ≡ or_else (left_in p h c q s.log) (Some registers)

    record On (t : State) : Type 0 where
      in' : In t
      place : Going t ⊎ Gone t

    module _ (t u : State) (a : In t) (g : Going t) (least : lo ≤ t.pc) (r : Strays w lo hi t u) where
      walk : Strolls p formed fit h number limit c here clear r.entry
      walk = strolls p formed fit h number limit c here clear t u least g.below r

      left-as : (e j : ℕ) (x y : Bool) → (phase_in exit t.log == j) ≡ x
          → (inside p h e r.entry.pc && not (inside p h e r.entry.next)) ≡ y → left_in p h e j u.log
          ≡ or_else (left_in p h e j t.log) (if x && y then Some r.entry.regs else None)
      left-as e j x y f z = ap (left_in p h e j) r.log ∙ ap₂ (λ (m n : Bool). or_else (left_in p h e j t.log) (if m && n
          then Some r.entry.regs else None)) f z

      other-phase : (j : ℕ) → j ≢ q → (phase_in exit t.log == j) ≡ false
      other-phase j n = ne_eqb (phase_in exit t.log) j (λ z. n (sym z ∙ a.phase))

      trail-of : (new : List Mark) → arrivals p h r.entry.pc r.entry.next ≡ new → trail (arrivals p h) u.log
          ≡ trail (arrivals p h) t.log ++ new
      trail-of new e = ap (trail (arrivals p h)) r.log ∙ ap (λ (l : List Mark). trail (arrivals p h) t.log ++ l) e

      front : IsFront (trail (arrivals p h) u.log) (whole_way p)
      front = by (cases_lt r.entry.next hi)
        where
          by : (r.entry.next < hi) ⊎ (hi ≤ r.entry.next) → IsFront (trail (arrivals p h) u.log) (whole_way p)
          by (inl x) = subst (λ (l : List Mark). IsFront l (whole_way p))
              (sym (trail-of [] (mark-in p formed fit h number limit c here clear r.entry walk x) ∙ append-nil
              (trail (arrivals p h) t.log))) a.told.order
          by (inr x) =
              let m = walk.most in
              subst (λ (l : List Mark). IsFront l (whole_way p))
              (sym (trail-of (End c ∷ []) (mark-end p formed fit h number limit c here clear r.entry walk
              (omega arith)) ∙ ap (λ (l : List Mark). l ++ End c ∷ []) g.way)) ahead

      next-in : In u
      next-in = record {
        base = r.kept 31 (omega arith) ∙ a.base;
        own = λ x y. r.own x y ∙ a.own x y;
        regs = r.fits;
        phase = ap (phase_in exit) r.log ∙ (phase-stays p formed fit h number t.log r.entry
            (no-exit p formed fit h number limit c here clear r.entry walk).0 ∙ a.phase);
        silent = ap (λ (l : List Entry). any (signals_in h) (now_in exit l)) r.log ∙
            (ap (any (signals_in h)) (now-stays p formed fit h number t.log r.entry
            (no-exit p formed fit h number limit c here clear r.entry walk).0) ∙ ap₂ (λ (x y : Bool). x || y)
            (not-flag p formed fit h number limit c here clear r.entry.access walk.access) a.silent);
        judged = λ e l. ap (any (reports e h)) r.log ∙ or_right (reports e h r.entry) (any (reports e h) t.log)
            (a.judged e l);
        unjudged = λ e l m. ap (any (reports e h)) r.log ∙ ap₂ (λ (x y : Bool). x || y)
            (not-reports p formed fit h number limit c here clear e h r.entry m number walk) (a.unjudged e l m);
        work = λ j. ap (work_in p h j) r.log
            ∙ (work-same p formed fit h number limit c here clear j t.log r.entry walk ∙
            a.work j);
        told = record {
          order = front;
          story = subst (λ (l : List Entry). Story (Fact p h) l) (sym r.log) (
            stroll-fact p formed fit h number limit c here clear t.log r.entry walk a.silent
                (ap (round_before p) a.phase ∙ odd),
            a.told.story,
          );
          pace = λ j. subst (λ (n : ℕ). n ≤ limit j)
              (sym (ap (work_in p h j) r.log ∙ work-same p formed fit h number limit c here clear j t.log r.entry walk))
              (a.told.pace j);
        };
        others = λ e j l n. left-as e j false (inside p h e r.entry.pc && not (inside p h e r.entry.next))
            (other-phase j n) refl ∙ (or_else-none (left_in p h e j t.log) ∙ a.others e j l n);
        read = λ j b n. ap (read_in p h j b) r.log ∙
            (ap (λ (x : Bool). or_else (read_in p h j b t.log) (if x then got r.entry.access b else None))
            (other-phase j n) ∙ (or_else-none (read_in p h j b t.log) ∙ a.read j b n));
      }

      here-phase : (phase_in exit t.log == q) ≡ true
      here-phase = eq-eqb (phase_in exit t.log) q a.phase

      next-place : Going u ⊎ Gone u
      next-place = by (cases_lt u.pc hi)
        where
          from-in : inside p h c r.entry.pc ≡ true
          from-in = inside-true p h c r.entry.pc walk.from walk.below

          by : (u.pc < hi) ⊎ (hi ≤ u.pc) → Going u ⊎ Gone u
          by (inl x) = inl (record {
            below = x;
            way = trail-of [] (mark-in p formed fit h number limit c here clear r.entry walk (omega (arith, r.next))) ∙
                (append-nil (trail (arrivals p h) t.log) ∙ g.way);
            left = left-as c q true false here-phase
                (ap₂ (λ (m n : Bool). m && not n) from-in
                (inside-true p h c r.entry.next walk.least (omega (arith, r.next)))) ∙
                (or_else-none (left_in p h c q t.log) ∙ g.left);
          })
          by (inr x) =
              let e : r.entry.next ≡ hi = omega (arith, r.next, r.most) in
              inr (record {
                at = omega (arith, r.most);
                way = trail-of (End c ∷ []) (mark-end p formed fit h number limit c here clear r.entry walk e) ∙ ap
                    (λ (l : List Mark). l ++ End c ∷ []) g.way;
                registers = r.entry.regs;
                are = r.regs;
                ended = ap (λ (l : List Entry). any (λ (f : Entry). f.next == hi) (now_in exit l)) r.log ∙
                    (ap (any (λ (f : Entry). f.next == hi))
                    (now-stays p formed fit h number t.log r.entry
                    (no-exit p formed fit h number limit c here clear r.entry walk).0) ∙ ap (λ (b : Bool). b
                    || any (λ (f : Entry). f.next == hi) (now_in exit t.log)) (eq-eqb r.entry.next hi e));
                left = left-as c q true true here-phase
                    (ap₂ (λ (m n : Bool). m && not n) from-in (inside-false p h c r.entry.next (inr (omega arith))))
                    ∙ ap
                    (λ (x : Option Table). or_else x (Some r.entry.regs)) g.left;
              })

    step : (t u : State) → On t → lo ≤ t.pc → t.pc < hi → Strays w lo hi t u → On u × Told p h limit u.log
    step t u a l m r = by a.place
      where
        by : Going t ⊎ Gone t → On u × Told p h limit u.log
        by (inl g) = let n = next-in t u a.in' g l r in (record { in' = n; place = next-place t u a.in' g l r }, n.told)
        by (inr g) = absurd (omega (arith, g.at))

    -- the hart's private dwords read back
    own-dword : (a : ℕ) → private_at h ≤ a → a + 8 ≤ private_at h + private_size → IsTrue (w.own a)
    own-dword a l m = ap (λ (b : Bool). b || is_fixed_dword p a) (private-dword h a l m)

    pub stay : Hold p h lo q d o ms s → Told p h limit s.log
        → Leads p h limit s (λ t. Hold p h hi q d o (ms ++ End c ∷ []) t × Stayed p h c q s t × Told p h limit t.log)
    unfolding private_size save_at
    stay hold told =
        keeps_map (λ t g. g) (λ t g. at-end t g.0 g.1)
        (keeps_stream w (λ t. Told p h limit t.log) On lo hi
        (held-bounds p formed fit h number limit c here clear) step s
        (record {
          in' = record {
            base = hold.base;
            own = λ _ _. refl;
            regs = hold.regs;
            phase = hold.phase;
            silent = hold.silent;
            judged = hold.judged;
            unjudged = hold.unjudged;
            work = λ _. refl;
            told = told;
            others =
                λ _ _ _ _. refl;
            read = λ _ _ _. refl;
          };
          place = inl (record { below = let m = clear.some in omega (arith, hold.pc); way = hold.way; left = refl });
        }) (omega (arith, hold.pc)) (let m = clear.some in omega (arith, hold.pc)))
      where
        at-end : (t : State) → On t → t.pc ≡ hi → Hold p h hi q d o (ms ++ End c ∷ []) t × Stayed p h c q s t
            × Told p h limit t.log
        at-end t a e = by a.place
          where
            i : In t
            i = a.in'

            by : Going t ⊎ Gone t → Hold p h hi q d o (ms ++ End c ∷ []) t × Stayed p h c q s t × Told p h limit t.log
            by (inl g) = absurd (omega (arith, g.below, e))
            by (inr g) = (
              record {
                pc = e;
                base = i.base;
                exits = i.own (private_at h + 256) (own-dword (private_at h + 256) (omega arith) (omega arith)) ∙
                    hold.exits;
                fixed = λ x y. i.own x (or_right (is_private_dword h x) (is_fixed_dword p x) y) ∙ hold.fixed x y;
                regs = i.regs;
                mem = λ x y. subst (λ (n : ℕ). n < 2 ^ 64) (sym (i.own x y)) (hold.mem x y);
                phase = i.phase;
                way = g.way;
                silent = i.silent;
                judged = i.judged;
                unjudged = i.unjudged;
                few = let n = i.work q in omega (arith, hold.few);
              },
              record {
                others = i.others;
                read = i.read;
                memos = record {
                  registers = λ k l. i.own (private_at h + 8 * k)
                      (own-dword (private_at h + 8 * k) (omega arith) (omega arith));
                  counter = i.own (private_at h + 264) (own-dword (private_at h + 264) (omega arith) (omega arith));
                  area = λ k j l m. i.own (save_at h k + 8 * j)
                      (own-dword (save_at h k + 8 * j) (omega arith) (omega arith));
                };
                registers = g.registers;
                are = g.are;
                ended = g.ended;
                left = g.left;
              },
              i.told,
            )
