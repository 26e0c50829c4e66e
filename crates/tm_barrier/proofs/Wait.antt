-- What every run of the words does that wait for flags.
use Rattle.std.proofs.Common.{◌≡◌, ◌≢◌, ℕ, zero, suc, ◌+◌, ◌*◌, ◌<◌, ◌≤◌, List, [], ◌∷◌, ◌++◌, length, Bool, true}
use Rattle.std.proofs.Common.{false, not, ◌&&◌, nat_lt, ◌==◌, ◌⊎◌, inl, inr, refl, sym, ap, ◌∙◌, subst, arith, eq-eqb}
use Rattle.std.proofs.Common.{ne_eqb, eqb-true}
use Rattle.std.specs.Prelude.{if◌then◌else◌, flat_map}
use Rattle.std.proofs.lemmas.Bool.{cases_lt, lt-ltb, le-leb, eqb-false}
use Rattle.tm_table.specs.declared.instr.Instr.{Instr}
use Rattle.tm_table.specs.declared.state.Access.TheVariants.{Quiet, Read}
use Rattle.tm_table.specs.Words.{word_of}
use Rattle.tm_plan_map.specs.Map.{flag_at}
use Rattle.tm_base.specs.Lists.{any, count_from}
use Rattle.tm_base.proofs.ListLemmas.{any-number}
use Rattle.tm_world.specs.Course.{gets}
use Rattle.tm_world.specs.Work.{gets_less}
use Rattle.tm_runs.specs.Machine.{World, State, Entry, get, loaded, MayAccess}
use Rattle.tm_runs.specs.Runs.{Takes, Now, KeepsUntil, At, Does}
use Rattle.tm_runs.proofs.Compose.{keeps_then, keeps_map, keeps_now, keeps_spin, Turned}
use Rattle.tm_runs.proofs.Steps.{step_ld, branched}
use Rattle.tm_runs.proofs.Tables.{get_put_other}
use Rattle.tm_blocks_base.specs.Instrs.{ld}
use Rattle.tm_blocks_base.specs.Laws.{RegistersFit}
use Rattle.tm_blocks_base.proofs.Dwords.{fit_put}
use Rattle.tm_blocks_base.specs.Instrs.{bltu_back}
use Rattle.tm_barrier.specs.Words.{wait, waits}
use Rattle.tm_barrier.specs.Laws.{Looks}
use Rattle.tm_runs.specs.Phases.{idles_in}
use Rattle.tm_runs.proofs.Steps.{step_bltu}
use Rattle.tm_barrier.proofs.Lists.{any-here, any-later, any-left, any-right}
use Rattle.tm_barrier.proofs.Made.{Made, made_none, made_one, made_then, made_more, made_idle}

-- a read of another hart's flag that gets less than m is idle
idle-read : (h n m g v : ℕ) (e : Entry) → g < n → g ≢ h → e.access ≡ Read (flag_at g) 8 v → v < m
    → idles_in h n m e ≡ true
idle-read h n m g v e below other is less =
    any-number (λ k. not (k == h) && gets_less (flag_at k) m e.access) n 0 g (omega arith) (omega arith)
    (ap (λ (b : Bool). not b && gets_less (flag_at g) m e.access) (ne_eqb g h other) ∙
    (ap (gets_less (flag_at g) m) is ∙ found))
  where
    found : gets_less (flag_at g) m (Read (flag_at g) 8 v) ≡ true
    found = ap (λ (b : Bool). b && (true && nat_lt v m)) (eq-eqb (flag_at g) (flag_at g) refl) ∙ lt-ltb v m less

-- a read of the flag that gets at least m
got-enough : (f m v : ℕ) → m ≤ v → gets f m (Read f 8 v) ≡ true
got-enough f m v le = ap (λ (b : Bool). b && (true && Rattle.std.specs.Prelude.nat_le m v)) (eq-eqb f f refl) ∙ le-leb m
    v le

module _ (w : World) (lo hi h n m : ℕ) where
  abbrev E : Entry → Type 0
  E = Does lo hi (Looks h n)

  abbrev test : Entry → Bool
  test = idles_in h n m

  -- the flags may be accessed, x2 is the number to wait for, and x3 the address of the first flag
  pub record Ready (s : State) : Type 0 where
    pub two : get s.regs 2 ≡ m
    pub three : get s.regs 3 ≡ flag_at 0

  -- ---- one flag

  module _ (g : ℕ) (below : g < n) (other : g ≢ h) (low : g < 16) (may : MayAccess w (flag_at g)) where
    record Waits (s t : State) : Type 0 where
      pc : t.pc ≡ s.pc
      regs : (r : ℕ) → r ≢ 4 → get t.regs r ≡ get s.regs r
      mem : t.mem ≡ s.mem
      fits : RegistersFit s → RegistersFit t
      made : Made E test 0 s t

    pub record Waited (s t : State) : Type 0 where
      pub pc : t.pc ≡ s.pc + 8
      pub regs : (r : ℕ) → r ≢ 4 → get t.regs r ≡ get s.regs r
      pub mem : t.mem ≡ s.mem
      pub fits : RegistersFit s → RegistersFit t
      pub made : Made E test 2 s t
      pub saw : any (λ e. gets (flag_at g) m e.access) made.entries ≡ true

    pub wait_keep : (s : State) → lo ≤ s.pc → s.pc + 8 ≤ hi → lo < s.pc → Ready s → At w.text s.pc (wait g)
        → KeepsUntil w (Made E test 2 s) (Waited s) s
    unfolding flag_at made_more made_then made_one
    wait_keep s x y z ready at =
        keeps_spin {n = 2} turn s (record {
          pc = refl;
          regs = λ r _. refl;
          mem = refl;
          fits = λ k. k;
          made = made_none s;
        })
      where
        looks : (v : ℕ) → Looks h n (Read (flag_at g) 8 v)
        looks v = (refl, record { hart = g; below = below; other = other; is = refl })

        turn : (t : State) → Waits s t → Takes w (Made E test 2 s) (Turned (Waits s) (Waited s) t) 2 t
        turn t j =
            let pc : t.pc ≡ s.pc = j.pc in
            let at' : At w.text t.pc (wait g) = subst (λ (a : ℕ). At w.text a (wait g)) (sym pc) at in
            step_ld (flag_at g) refl at'.0 (rw (j.regs 3 (omega arith) ∙ ready.three) (omega arith)) may
            (λ v _ _. made_more 2 (omega arith) (made_then j.made
            (made_one (record {
              pc = t.pc;
              next = t.pc + 4;
              word = word_of (ld 4 (128 * g) 3);
              access = Read (flag_at g) 8 v;
              regs = get (loaded (ld 4 (128 * g) 3) (flag_at g) v t).regs;
            }) refl
            (record {
              from = omega arith;
              below = omega arith;
              least = omega arith;
              most = omega arith;
              access = looks v;
            }))))
            (λ v small _.
            let t1 = loaded (ld 4 (128 * g) 3) (flag_at g) v t in
            let two : get t1.regs 2 ≡ m = j.regs 2 (omega arith) ∙ ready.two in
            let same : (r : ℕ) → r ≢ 4 → get t1.regs r ≡ get s.regs r =
            λ r n4. get_put_other t.regs 4 v r n4 ∙ j.regs r n4 in
            let fits : RegistersFit s → RegistersFit t1 = λ k. fit_put t.regs 4 v small (j.fits k) in
            step_bltu s.pc refl at'.1.0 (omega arith)
            (λ lt.
            let u = branched (bltu_back 4 2 4) s.pc t1 in
            let e : Entry = record {
              pc = t.pc;
              next = t.pc + 4;
              word = word_of (ld 4 (128 * g) 3);
              access = Read (flag_at g) 8 v;
              regs = get t1.regs;
            } in
            let f : Entry = record {
              pc = t.pc + 4;
              next = s.pc;
              word = word_of (bltu_back 4 2 4);
              access = Quiet;
              regs = get t1.regs;
            } in
            let made : Made E test 0 s u =
            made_idle e f refl (record {
              from = omega arith;
              below = omega arith;
              least = omega arith;
              most = omega arith;
              access = looks v;
            }) (record {
              from = omega arith;
              below = omega arith;
              least =
                  omega arith;
              most = omega arith;
              access = tt;
            })
            (idle-read h n m g v e below other refl (subst (λ (x : ℕ). v < x) two lt)) j.made in (
              made_more 2 (omega arith) made,
              Now (inl (record { pc = refl; regs = same; mem = j.mem; fits = fits; made = made }, omega arith)),
            ))
            (λ le.
            let u = branched (bltu_back 4 2 4) (t1.pc + 4) t1 in
            let e : Entry = record {
              pc = t.pc;
              next = t.pc + 4;
              word = word_of (ld 4 (128 * g) 3);
              access = Read (flag_at g) 8 v;
              regs = get t1.regs;
            } in
            let f : Entry = record {
              pc = t.pc + 4;
              next = t.pc + 4 + 4;
              word = word_of (bltu_back 4 2 4);
              access = Quiet;
              regs = get t1.regs;
            } in
            let read : Made E test 1 t t1 =
            made_one e refl (record {
              from = omega arith;
              below = omega arith;
              least = omega arith;
              most = omega arith;
              access = looks v;
            }) in
            let on : Made E test 1 t1 u =
            made_one f refl (record {
              from = omega arith;
              below = omega arith;
              least = omega arith;
              most = omega arith;
              access = tt;
            }) in
            let made : Made E test 2 s u = made_then j.made (made_then read on) in
            let enough : gets (flag_at g) m (Read (flag_at g) 8 v) ≡ true =
            got-enough (flag_at g) m v (subst (λ (x : ℕ). x ≤ v) two le) in (
              made,
              Now (inr (record {
                pc = omega arith;
                regs = same;
                mem = j.mem;
                fits = fits;
                made = made;
                saw = any-later (λ (e : Entry). gets (flag_at g) m e.access) f (e ∷ j.made.entries)
                    (any-here (λ (e : Entry). gets (flag_at g) m e.access) e j.made.entries enough);
              })),
            )))

  -- ---- some flags

  pub record WaitedAll (a k : ℕ) (s t : State) : Type 0 where
    pub pc : t.pc ≡ s.pc + 4 * length (waits h (count_from a k))
    pub regs : (r : ℕ) → r ≢ 4 → get t.regs r ≡ get s.regs r
    pub mem : t.mem ≡ s.mem
    pub fits : RegistersFit s → RegistersFit t
    pub made : Made E test (2 * k) s t
    pub saw : (g : ℕ) → a ≤ g → g < a + k → g ≢ h → any (λ e. gets (flag_at g) m e.access) made.entries ≡ true

  -- what was made by one flag's words, and by those of the flags behind it
  joined : (a k : ℕ) (below : a < n) (other : a ≢ h) (low : a < 16) (may : MayAccess w (flag_at a)) (s t u : State)
      → length (waits h (count_from a (suc k))) ≡ 2 + length (waits h (count_from (suc a) k))
      → Waited a below other low may s t → WaitedAll (suc a) k t u → WaitedAll a (suc k) s u
  unfolding made_more made_then
  joined a k below other low may s t u len one more =
      let made = made_then one.made more.made in
      record {
        pc = omega (arith, len, one.pc, more.pc);
        regs = λ r n4. more.regs r n4 ∙ one.regs r n4;
        mem = more.mem ∙ one.mem;
        fits = λ f. more.fits (one.fits f);
        made = made_more (2 * suc k) (omega arith) made;
        saw = λ g x y ne. by g y ne (cases_lt a g) x;
      }
    where
      by : (g : ℕ) → g < a + suc k → g ≢ h → (a < g) ⊎ (g ≤ a) → a ≤ g
          → any (λ e. gets (flag_at g) m e.access) (more.made.entries ++ one.made.entries) ≡ true
      by g y ne (inl l) x = any-left (λ e. gets (flag_at g) m e.access) more.made.entries one.made.entries
          (more.saw g l (omega arith) ne)
      by g y ne (inr l) x =
          let same : a ≡ g = omega arith in
          subst (λ (z : ℕ). any (λ e. gets (flag_at z) m e.access) (more.made.entries ++ one.made.entries) ≡ true) same
          (any-right (λ e. gets (flag_at a) m e.access) more.made.entries one.made.entries one.saw)

  skipped : (a k : ℕ) → a ≡ h → (s u : State) → length (waits h (count_from a (suc k)))
      ≡ length (waits h (count_from (suc a) k)) → WaitedAll (suc a) k s u → WaitedAll a (suc k) s u
  unfolding made_more
  skipped a k at s u len more = record {
    pc = omega (arith, len, more.pc);
    regs = more.regs;
    mem = more.mem;
    fits = more.fits;
    made = made_more (2 * suc k) (omega arith) more.made;
    saw = λ g x y ne. more.saw g (omega arith) (omega arith) ne;
  }

  -- the words of one flag, if it isn't the hart's own
  abbrev block : Bool → ℕ → List Instr
  block own a = if own then [] else wait a

  waits_step : (a k : ℕ) (b : Bool) → (a == h) ≡ b → waits h (count_from a (suc k))
      ≡ block b a ++ waits h (count_from (suc a) k)
  unfolding waits
  waits_step a k b e =
      ap (λ (c : Bool). block c a ++ flat_map (λ g. if g == h then [] else wait g) (count_from (suc a) k)) e

  -- what the words of the flags behind one do
  abbrev Later : ℕ → ℕ → Type 0
  Later a k = (u : State) → lo < u.pc → u.pc + 4 * length (waits h (count_from a k)) ≤ hi → Ready u
      → At w.text u.pc (waits h (count_from a k)) → KeepsUntil w (Made E test (2 * k) u) (WaitedAll a k u) u

  one_more : (few : n ≤ 16) (may : (g : ℕ) → g < n → MayAccess w (flag_at g)) (b : Bool) (a k : ℕ) → (a == h) ≡ b
      → a < n → (s : State) → lo < s.pc → s.pc + 4 * length (waits h (count_from a (suc k))) ≤ hi → Ready s
      → At w.text s.pc (waits h (count_from a (suc k))) → Later (suc a) k
      → KeepsUntil w (Made E test (2 * suc k) s) (WaitedAll a (suc k) s) s
  one_more few may true a k own below s x y ready at later =
      let step = waits_step a k true own in
      let len : length (waits h (count_from a (suc k))) ≡ length (waits h (count_from (suc a) k)) = ap length step in
      keeps_map (λ t g. made_more (2 * suc k) (omega arith) g) (λ t u. skipped a k (eqb-true a h own) s t len u)
      (later s x (omega arith) ready (subst (At w.text s.pc) step at))
  one_more few may false a k own below s x y ready at later =
      let step = waits_step a k false own in
      let rest = waits h (count_from (suc a) k) in
      let len : length (waits h (count_from a (suc k))) ≡ 2 + length rest = ap length step ∙ omega arith in
      let code = subst (At w.text s.pc) step at in
      let other : a ≢ h = eqb-false a h own in
      let low : a < 16 = omega arith in
      keeps_then (keeps_map (λ t g. made_more (2 * suc k) (omega arith) g) (λ t q. q)
      (wait_keep a below other low (may a below) s (omega arith) (omega arith) x ready (code.0, (code.1.0, tt))))
      (λ t one.
      let pc : t.pc ≡ s.pc + 8 = one.pc in
      let here : s.pc + 4 + 4 ≡ t.pc = omega arith in
      keeps_map (λ u g. made_more (2 * suc k) (omega arith) (made_then one.made g))
      (λ u more. joined a k below other low (may a below) s t u len one more)
      (later t (omega arith) (omega arith) (record {
        two = one.regs 2 (omega arith) ∙ ready.two;
        three = one.regs 3 (omega arith) ∙ ready.three;
      }) (subst (λ (p : ℕ). At w.text p rest) here code.1.1)))

  pub waits_keep : (few : n ≤ 16) (may : (g : ℕ) → g < n → MayAccess w (flag_at g)) (k a : ℕ) → a + k ≤ n → Later a k
  unfolding waits
  waits_keep few may zero a sum s x y ready at =
      keeps_now (record {
        pc = omega arith;
        regs = λ r _. refl;
        mem = refl;
        fits = λ f. f;
        made = made_none s;
        saw = λ g p q _. absurd (omega arith);
      })
  waits_keep few may (suc k) a sum s x y ready at =
      one_more few may (a == h) a k refl (omega arith) s x y ready at (waits_keep few may k (suc a) (omega arith))
