-- What every run of the words does up to a barrier's signal.
use Rattle.std.proofs.Common.{◌≡◌, ◌≢◌, ℕ, zero, suc, ◌+◌, ◌*◌, ◌^◌, ◌<◌, ◌≤◌, List, [], ◌∷◌, ◌++◌, length, Bool}
use Rattle.std.proofs.Common.{true, false, true≢false, not, ◌&&◌, ◌==◌, inr, refl, sym, ap, ap₂, ◌∙◌, arith, eq-eqb}
use Rattle.std.specs.Prelude.{if◌then◌else◌}
use Rattle.std.proofs.lemmas.Bool.{lt-ltb}
use Rattle.tm_table.specs.declared.state.Access.{Access}
use Rattle.tm_table.specs.declared.state.Access.TheVariants.{Quiet, Read, Write}
use Rattle.tm_table.specs.Words.{word_of}
use Rattle.tm_plan_map.specs.Map.{flag_at}
use Rattle.tm_base.specs.Lists.{any, count_from}
use Rattle.tm_base.proofs.ListLemmas.{any-no-number}
use Rattle.tm_world.specs.Lists.{front_to}
use Rattle.tm_world.specs.Kinds.{writes_flag}
use Rattle.tm_world.specs.Course.{is_write}
use Rattle.tm_world.specs.Work.{gets_less}
use Rattle.tm_runs.specs.Machine.{World, State, Entry, Table, put, get, loaded, computes, MayAccess}
use Rattle.tm_runs.specs.Runs.{Takes, Now, At, Does, Each, Newest}
use Rattle.tm_runs.specs.Course.{Story}
use Rattle.tm_runs.proofs.Compose.{takes_then, takes_map}
use Rattle.tm_runs.proofs.Split.{takes_since, takes_count}
use Rattle.tm_runs.proofs.Steps.{step_ld, step_sd, step_addi, step_slli, written, branched}
use Rattle.tm_runs.proofs.Tables.{get_put_other, at_front, at_next}
use Rattle.tm_blocks_base.specs.Instrs.{addi, slli, ld, sd}
use Rattle.tm_blocks_base.specs.Laws.{Uses, RegistersFit, accesses}
use Rattle.tm_blocks_base.proofs.Dwords.{fit_put}
use Rattle.tm_blocks_base.specs.Instrs.{fence}
use Rattle.tm_barrier.specs.Words.{prepare, signal}
use Rattle.tm_barrier.specs.Laws.{Meeting, MeetUses, KeepsInStep, Barred}
use Rattle.tm_runs.specs.Phases.{signals_in, is_fence_in, idles_in}
use Rattle.tm_runs.proofs.Steps.{step_fence}
use Rattle.tm_runs.proofs.Story.{each-map}
use Rattle.tm_barrier.proofs.Lists.{any-here}
use Rattle.tm_barrier.proofs.Made.{worked-length}
use Rattle.tm_barrier.proofs.Told.{Early, early-silent, early-story, early-barred, does-map, count-meets}
use Rattle.tm_barrier.proofs.Told.{count-silent, count-busy}

-- the newest k entries
abbrev newest : ℕ → List Entry → List Entry
newest zero es = []
newest (suc k) [] = []
newest (suc k) (e ∷ es) = e ∷ newest k es

abbrev behind : List Entry → List Entry
behind [] = []
behind (e ∷ es) = es

pub fence-word : word_of fence ≡ 0x0330000F
unfolding word_of
fence-word = refl

module _ (w : World) (lo hi h n c m : ℕ) (meeting : Meeting w h n c) where
  -- the count went up by one, and a fence was made
  record Prepared (s t : State) : Type 0 where
    pc : t.pc ≡ s.pc + 24
    two : get t.regs 2 ≡ m
    three : get t.regs 3 ≡ flag_at 0
    regs : (r : ℕ) → r ≢ 2 → r ≢ 3 → get t.regs r ≡ get s.regs r
    mem : t.mem ≡ put s.mem c m
    fits : RegistersFit s → RegistersFit t
    last : Entry
    before : List Entry
    log : t.log ≡ last ∷ before ++ s.log
    few : length before ≡ 5
    word : last.word ≡ 0x0330000F
    quiet : last.access ≡ Quiet
    each : Each (Early lo hi h n c m) (last ∷ before)
    accesses : accesses t.log ≡ Write c 8 m ∷ Read c 8 (s.mem c) ∷ accesses s.log

  early : (e : Entry) → lo ≤ e.pc → e.pc < hi → lo < e.next → e.next ≤ hi → Uses (λ a. a ≡ c) (λ a. a ≡ c) e.access
      → Early lo hi h n c m e
  early e x y z q u = record {
    does = record { from = x; below = y; least = z; most = q; access = u };
    silent = count-silent h c (omega (arith, meeting.mine, meeting.few)) meeting.above e.access u;
    busy =
        count-busy h n c m meeting.few meeting.above e u;
  }

  prepare_takes : (s : State) → get s.regs 31 + 256 ≡ c → s.mem c + 1 ≡ m → m < 2 ^ 64 → lo ≤ s.pc → s.pc + 24 ≤ hi
      → At w.text s.pc prepare → Takes w (λ t. Newest (Early lo hi h n c m) t.log) (Prepared s) 6 s
  unfolding prepare flag_at
  prepare_takes s base sum small x y at =
      let low = meeting.low in
      let may : MayAccess w c = (meeting.aligned, meeting.count) in
      step_ld c refl at.0 (omega (arith, base)) may
      (λ v _ _. early _ (omega arith) (omega arith) (omega arith) (omega arith) (refl, refl))
      (λ v fit own.
      let is : v ≡ s.mem c = own meeting.own in
      let s1 = loaded (ld 2 256 31) c v s in
      let s2 = computes (addi 2 2 1) s1 m in
      let s3 = written (sd 2 256 31) c s2 in
      let s4 = computes (addi 3 0 515) s3 515 in
      let s5 = computes (slli 3 3 22) s4 (flag_at 0) in
      let s6 = branched fence (s5.pc + 4) s5 in
      step_addi m refl at.1.0 (omega arith) (early _ (omega arith) (omega arith) (omega arith) (omega arith) tt)
      (step_sd c refl at.1.1.0 (omega (arith, base)) may meeting.free
      (early _ (omega arith) (omega arith) (omega arith) (omega arith) (refl, refl))
      (step_addi 515 refl at.1.1.1.0 refl (early _ (omega arith) (omega arith) (omega arith) (omega arith) tt)
      (step_slli (flag_at 0) refl at.1.1.1.1.0 refl (early _ (omega arith) (omega arith) (omega arith) (omega arith) tt)
      (step_fence refl at.1.1.1.1.1.0 (early _ (omega arith) (omega arith) (omega arith) (omega arith) tt)
      (Now (record {
        pc = omega arith;
        two = refl;
        three = refl;
        regs = λ r n2 n3. get_put_other s4.regs 3 (flag_at 0) r n3 ∙
            (get_put_other s3.regs 3 515 r n3 ∙ (get_put_other s1.regs 2 m r n2 ∙ get_put_other s.regs 2 v r n2));
        mem = refl;
        fits = λ f. fit_put s4.regs 3 (flag_at 0) (omega arith)
            (fit_put s3.regs 3 515 (omega arith) (fit_put s1.regs 2 m (omega arith) (fit_put s.regs 2 v fit f)));
        last = record { pc = s5.pc; next = s5.pc + 4; word = word_of fence; access = Quiet; regs = get s5.regs };
        before = newest 5 (behind s6.log);
        log = refl;
        few = refl;
        word = fence-word;
        quiet = refl;
        each = (
          early _ (omega arith) (omega arith) (omega arith) (omega arith) tt,
          (
            early _ (omega arith) (omega arith) (omega arith) (omega arith) tt,
            (
              early _ (omega arith) (omega arith) (omega arith) (omega arith) tt,
              (
                early _ (omega arith) (omega arith) (omega arith) (omega arith) (refl, refl),
                (
                  early _ (omega arith) (omega arith) (omega arith) (omega arith) tt,
                  (early _ (omega arith) (omega arith) (omega arith) (omega arith) (refl, refl), tt),
                ),
              ),
            ),
          ),
        );
        accesses = ap (λ (x : ℕ). Write c 8 m ∷ Read c 8 x ∷ accesses s.log) is;
      })))))))

  -- hart h's flag is the count
  pub record Signalled (s t : State) : Type 0 where
    pub pc : t.pc ≡ s.pc + 28
    pub two : get t.regs 2 ≡ m
    pub three : get t.regs 3 ≡ flag_at 0
    pub regs : (r : ℕ) → r ≢ 2 → r ≢ 3 → get t.regs r ≡ get s.regs r
    pub mem : t.mem ≡ put (put s.mem c m) (flag_at h) m
    pub fits : RegistersFit s → RegistersFit t
    pub last : Entry
    pub before : List Entry
    pub log : t.log ≡ last ∷ before ++ s.log
    pub few : length before ≡ 6
    pub signals : signals_in h last ≡ true
    pub each : Each (Does lo hi (MeetUses h n c)) (last ∷ before)
    pub story : Story (KeepsInStep h n m) (last ∷ before)
    pub accesses : accesses t.log ≡ Write (flag_at h) 8 m ∷ Write c 8 m ∷ Read c 8 (s.mem c) ∷ accesses s.log

  signals-flag : (v : ℕ) → writes_flag h (Write (flag_at h) 8 v) ≡ true
  signals-flag v = ap₂ (λ (a b : Bool). a && b) (lt-ltb (flag_at h) (flag_at h + 8) (omega arith))
      (lt-ltb (flag_at h) (flag_at h + 8) (omega arith))

  -- the fence stands behind all writes
  fenced : (last : Entry) (before : List Entry) → last.word ≡ 0x0330000F → last.access ≡ Quiet
      → any is_fence_in (front_to (λ (t : Entry). is_write t.access) (last ∷ before)) ≡ true
  fenced last before word quiet =
      let first : front_to (λ (t : Entry). is_write t.access) (last ∷ before)
      ≡ last ∷ front_to (λ (t : Entry). is_write t.access) before =
      ap (λ (a : Access). if is_write a then [] else last ∷ front_to (λ (t : Entry). is_write t.access) before)
      quiet in
      ap (any is_fence_in) first ∙ any-here is_fence_in last (front_to (λ (t : Entry). is_write t.access) before)
      (eq-eqb last.word 0x0330000F word)

  writes-busy : (e : Entry) → e.access ≡ Write (flag_at h) 8 m → idles_in h n m e ≡ false
  writes-busy e is = ap (λ (a : Access). any (λ g. not (g == h) && gets_less (flag_at g) m a) (count_from 0 n)) is ∙
      any-no-number _ n 0 (λ g _ _. nothing (not (g == h)))
    where
      nothing : (b : Bool) → (b && false) ≡ false
      nothing true = refl
      nothing false = refl

  -- the signal's entry
  in-step : (e last : Entry) (before : List Entry) → e.access ≡ Write (flag_at h) 8 m → last.word ≡ 0x0330000F
      → last.access ≡ Quiet → any (signals_in h) (last ∷ before) ≡ false → KeepsInStep h n m (last ∷ before) e
  in-step e last before is word quiet none = record {
    value = λ _. is;
    once = λ _. none;
    fence = λ _. fenced last before word quiet;
    still = λ s. absurd (true≢false (sym s ∙ none));
    waits = λ s. absurd (true≢false (sym s ∙ writes-busy e is));
  }

  pub barred : (s t : State) → Signalled s t → Barred lo hi h n c m s t
  barred s t g = record {
    entries = g.last ∷ g.before;
    log = g.log;
    each = g.each;
    story = g.story;
    work = omega (arith, worked-length (idles_in h n m) (g.last ∷ g.before), g.few);
  }

  signalled : (s t : State) → lo ≤ t.pc → t.pc + 4 ≤ hi → Prepared s t
      → Signalled s (written (sd 2 (128 * h) 3) (flag_at h) t)
  signalled s t x y p =
      let u = written (sd 2 (128 * h) 3) (flag_at h) t in
      let e : Entry = record {
        pc = t.pc;
        next = t.pc + 4;
        word = word_of (sd 2 (128 * h) 3);
        access = Write (flag_at h) 8 (get t.regs 2);
        regs = get t.regs;
      } in
      let is : e.access ≡ Write (flag_at h) 8 m = ap (λ (v : ℕ). Write (flag_at h) 8 v) p.two in
      record {
        pc = omega (arith, p.pc);
        two = p.two;
        three = p.three;
        regs = p.regs;
        mem = ap₂ (λ (f : Table) (v : ℕ). put f (flag_at h) v) p.mem p.two;
        fits = p.fits;
        last = e;
        before = p.last ∷ p.before;
        log = ap (λ (l : List Entry). e ∷ l) p.log;
        few = ap suc p.few;
        signals = ap (writes_flag h) is ∙ signals-flag m;
        each = (
          record { from = x; below = omega arith; least = omega arith; most = y; access = (refl, inr refl) },
          each-map (λ z f. does-map lo hi (count-meets h n c) z f.does) (p.last ∷ p.before) p.each,
        );
        story = (
          in-step e p.last p.before is p.word p.quiet (early-silent lo hi h n c m (p.last ∷ p.before) p.each),
          early-story lo hi h n c m (p.last ∷ p.before) p.each,
        );
        accesses = ap₂ (λ (a : Access) (l : List Access). a ∷ l) is p.accesses;
      }

  pub signal_takes : (s : State) → get s.regs 31 + 256 ≡ c → s.mem c + 1 ≡ m → m < 2 ^ 64 → lo ≤ s.pc → s.pc + 28 ≤ hi
      → At w.text s.pc (prepare ++ signal h)
      → Takes w (Barred lo hi h n c m s) (Signalled s) 7 s
  unfolding prepare flag_at
  signal_takes s base sum small x y at =
      takes_then {k = 1}
      (takes_map (λ t g. early-barred lo hi h n c m 6 s t (omega arith) g.0.1 g.1) (λ t q. q.0.0)
      (takes_count (takes_since (prepare_takes s base sum small x (omega arith)
      (at_front w.text s.pc prepare (signal h) at)))))
      (λ t p.
      let pc : t.pc ≡ s.pc + 24 = p.pc in
      let here = at_next w.text s.pc t.pc prepare (signal h) 6 refl pc at in
      let done = signalled s t (omega arith) (omega arith) p in
      let low : h < 16 = omega (arith, meeting.mine, meeting.few) in
      step_sd {n = 0} (flag_at h) refl here.0 (rw p.three (omega arith)) (omega arith, meeting.flags h meeting.mine)
      meeting.writable (barred s _ done) (Now done))
