-- A calm part tells what it should, and leaves what the log told.
use Rattle.std.proofs.Common.{◌≡◌, ◌≢◌, ◌⊎◌, inl, inr, ℕ, suc, ◌+◌, ◌*◌, ◌%◌, ◌<◌, ◌≤◌, Bool, true, false}
use Rattle.std.proofs.Common.{◌&&◌, ◌||◌, ◌==◌, eqb-true, eq-eqb, ne_eqb, List, [], ◌∷◌, ◌++◌}
use Rattle.std.proofs.Common.{length, Option, None, Some, refl, sym, ap, ap₂, ◌∙◌, subst, arith, append-nil}
use Rattle.std.specs.Prelude.{slice_index, slice_index_or, IsTrue, IsFalse, IfSome, if◌then◌else◌}
use Rattle.std.proofs.lemmas.Bool.Decides.{nat_tests}
use Rattle.tm_table.specs.declared.state.Access.{Access}
use Rattle.tm_table.specs.declared.state.Access.TheVariants.{Quiet, Read, Write}
use Rattle.tm_plan_cases.specs.declared.cases.Stream.{Stream}
use Rattle.tm_plan_cases.specs.declared.program.Program.{Program}
use Rattle.tm_plan_map.specs.Map.{verdict_at, flag_at, private_at, private_size, window_at, windows_base}
use Rattle.tm_plan_cases.specs.Collected.{is_declared, declares, owned}
use Rattle.tm_base.specs.Lists.{any}
use Rattle.tm_base.proofs.ListLemmas.{no}
use Rattle.tm_plan_cases.specs.Shaped.{MasksFit}
use Rattle.tm_world.specs.Lists.{IsFront}
use Rattle.tm_world.specs.Place.{harts, case_count, start_of, end_of, exit_of, halt_of, is_private, is_flag}
use Rattle.tm_world.specs.Place.{is_verdict, is_window}
use Rattle.tm_world.specs.Run.{Writes}
use Rattle.tm_world.specs.Writers.{may_write, may_write_window}
use Rattle.tm_plan_cases.specs.Streams.{stream_in}
use Rattle.tm_world.specs.Kinds.{stream_at, writes_flag}
use Rattle.tm_world.specs.Marks.{Mark, Enter, comes_to, arrivals, whole_way}
use Rattle.tm_world.specs.Course.{writes_in, reads_in, writes_shared, round_before}
use Rattle.tm_world.proofs.Streams.{case-of}
use Rattle.tm_world.proofs.Accesses.{writes-itself}
use Rattle.tm_runs.specs.Machine.{Entry}
use Rattle.tm_runs.specs.Runs.{Does, Each}
use Rattle.tm_runs.specs.Course.{trail}
use Rattle.tm_runs.proofs.Arrivals.{Quiet as Unmarked, quiet-off, arrivals-none}
use Rattle.tm_plan_map.proofs.Within.{within-true, within-false}
use Rattle.std.proofs.lemmas.Bool.{or_right, or_left, and_parts}
use Rattle.std.proofs.lemmas.Option.{slice_get_within}
use Rattle.tm_legal.proofs.Formed.{formed-sizes}
use Rattle.tm_legal.specs.Tame.{Formed}
use Rattle.tm_stays.specs.Stays.{one_outside}
use Rattle.tm_blocks_base.specs.Laws.{Uses}
use Rattle.tm_plan_owned.proofs.Collected.{owned-above}
use Rattle.tm_pass_way.specs.Logs.{reports, work_in}
use Rattle.tm_runs.specs.Phases.{phase_in, steps_in, now_in, signals_in, lately_at}
use Rattle.tm_pass_way.specs.Facts.{Fact, Gathering}
use Rattle.tm_pass_way.specs.Calm.{Clear, IsBelow, IsOwn, Steady}

-- ---- what calm accesses don't do

abbrev pub IsCalm : ℕ → Access → Type 0
IsCalm h = Uses IsBelow (IsOwn h)

pub any-none : {A : Type 0} (f : A → Bool) (xs : List A) → ((x : A) → f x ≡ false) → any f xs ≡ false
any-none f [] h = refl
any-none f (x ∷ xs) h = ap₂ (λ (a b : Bool). a || b) (h x) (any-none f xs h)

-- it writes none of the n bytes from a, if they lie below the private area or above
writes-off : (h a n : ℕ) (x : Access) → (a + n ≤ private_at h) ⊎ (private_at h + private_size ≤ a) → IsCalm h x
    → writes_in a n x ≡ false
writes-off h a n Quiet o u = refl
writes-off h a n (Read addr width v) o u = refl
writes-off h a n (Write addr width v) (inl o) u = let w = u.0 in let l = u.1 in grind (arith, nat_tests)
writes-off h a n (Write addr width v) (inr o) u = let w = u.0 in let l = u.1 in grind (arith, nat_tests)

pub reads-off : (h a : ℕ) (x : Access) → windows_base ≤ a → IsCalm h x → reads_in a 8 x ≡ false
reads-off h a Quiet o u = refl
reads-off h a (Write addr width v) o u = refl
reads-off h a (Read addr width v) o u = let w = u.0 in let l = u.1 in grind (arith, nat_tests)

flag-off : (h g : ℕ) (x : Access) → flag_at g + 8 ≤ private_at h → IsCalm h x → writes_flag g x ≡ false
flag-off h g Quiet o u = refl
flag-off h g (Read addr width v) o u = refl
flag-off h g (Write addr width v) o u = let w = u.0 in let l = u.1 in grind (arith, nat_tests)

-- ---- places

pub verdict-low : (d g h : ℕ) → d < 32 → g < 16 → verdict_at d g + 8 ≤ private_at h
unfolding verdict_at private_at
verdict-low d g h l m = omega arith

pub flag-low : (g h : ℕ) → g < 16 → flag_at g + 8 ≤ private_at h
unfolding flag_at private_at
flag-low g h m = omega arith

pub private-below : (h : ℕ) → h < 16 → private_at h + private_size ≤ windows_base
unfolding private_at private_size windows_base
private-below h m = omega arith

pub window-high : (w : ℕ) → windows_base ≤ window_at w
unfolding window_at
window-high w = omega arith

-- ---- bytes below the windows

pub undeclared : (p : Program) (b : ℕ) → b < windows_base → is_declared p.cases b ≡ false
unfolding is_declared
undeclared p b l =
    any-none (declares p.cases.line b) p.cases.windows
    (λ w. within-false (window_at w.number) (w.lines * p.cases.line) b (inl (let m = window-high w.number in
    omega arith)))

-- ---- an entry

module _ (p : Program) (formed : Formed p) (fit : MasksFit p.cases p.masks) (h : ℕ) (number : h < harts p) where
  abbrev exit : ℕ
  exit = exit_of p h

  low : h < 16
  low = let s = (formed-sizes formed).harts in omega arith

  -- where an entry goes from and to, away from marks
  pub record Still (e : Entry) : Type 0 where
    pub from : e.pc ≢ exit
    pub start : (c : ℕ) → c < case_count p → e.next ≢ start_of p h c
    pub halt : e.next ≢ halt_of p h
    pub access : IsCalm h e.access

  -- the same, but that it may enter a stream
  pub record Mild (e : Entry) : Type 0 where
    pub from : e.pc ≢ exit
    pub halt : e.next ≢ halt_of p h
    pub access : IsCalm h e.access

  pub not-reports : (d g : ℕ) (e : Entry) → d < case_count p → g < harts p → IsCalm h e.access
      → writes_in (verdict_at d g) 8 e.access ≡ false
  not-reports d g e l m s = let f = formed.program.cases.count in let k = (formed-sizes formed).harts in
      writes-off h (verdict_at d g) 8 e.access (inl (verdict-low d g h (omega arith) (omega arith))) s

  pub not-signals : (e : Entry) → IsCalm h e.access → signals_in h e ≡ false
  not-signals e s = flag-off h h e.access (flag-low h h low) s

  not-shared : (e : Entry) → IsCalm h e.access → writes_shared p e.access ≡ false
  not-shared e s = any-none (λ w. writes_in (window_at w.number) (w.lines * p.cases.line) e.access) p.cases.windows
      (λ w. writes-off h (window_at w.number) (w.lines * p.cases.line) e.access (inr (let m = window-high w.number in
      let k = private-below h low in omega arith)) s)

  may-own : (q b : ℕ) → private_at h ≤ b → b < private_at h + private_size → may_write p q h b ≡ true
  may-own q b l m =
      or_right (is_flag h b) (is_verdict p h b || (is_private h b || (is_window b && may_write_window p q h b)))
      (or_right (is_verdict p h b) (is_private h b || (is_window b && may_write_window p q h b))
      (or_left (is_private h b) (is_window b && may_write_window p q h b)
      (within-true (private_at h) private_size b l m)))

  writes-own : (q : ℕ) (x : Access) → IsCalm h x → Writes (λ b. IsTrue (may_write p q h b)
      × (q % 2 ≡ 1 → IsFalse (is_declared p.cases b))) x
  writes-own q Quiet u = tt
  writes-own q (Read addr width v) u = tt
  writes-own q (Write addr width v) u = λ i l.
      let w = u.0 in
      let m = u.1 in (
        may-own q (addr + i) (omega arith) (omega arith),
        λ _. undeclared p (addr + i) (let k = private-below h low in
            omega arith),
      )

  -- an entry with a calm access that is neither at the exit mark nor comes to halt, where it enters a stream as it
  -- should
  pub mild-fact : (past : List Entry) (e : Entry) → Mild e → any (signals_in h) (now_in exit past) ≡ false
      → ((c : ℕ) (stream : Stream) → stream_in p.cases c h ≡ Some stream → IsTrue (comes_to p h (Enter c) e.pc e.next)
      → (r : ℕ) → 1 ≤ r → r < 32 → e.regs r ≡ slice_index stream.regs r) → Fact p h past e
  mild-fact past e s silent enters = record {
    fresh = enters;
    behind = λ c l g. s.from;
    verdict = λ c g l m f. no (not-reports c g e l m s.access) f;
    exact = λ c m v f g. no (not-reports c h e (let n = slice_get_within p.masks.cases c m f in
        omega (arith, fit.count)) number s.access) (ap (writes_in (verdict_at c h) 8) g
        ∙ writes-itself (verdict_at c h) v);
    halt = λ z. absurd (s.halt z);
    halted = λ z. absurd (s.halt z);
    writes = λ _. writes-own (phase_in exit past) e.access s.access;
    barrier = record {
      signal = λ z. no (not-signals e s.access) z;
      still = λ z. no silent z;
      leave = λ z. absurd (s.from z);
    };
    collects = gathers (round_before p (phase_in exit past)) refl;
    sets = λ z. no (not-signals e s.access) z;
  }
    where
      gathers : (o : Option ℕ) → round_before p (phase_in exit past) ≡ o → IfSome o (λ c. Gathering p h past e)
      gathers None f = tt
      gathers (Some c) f = record {
        once = λ k d l z. no (reads-off h (slice_index_or (owned p.cases h) k d) e.access (owned-above p h k d l)
            s.access) z;
        before_writes = λ z. no (not-shared e s.access) z;
        before_exit = λ z. absurd (s.from z);
      }

  pub calm-fact : (past : List Entry) (e : Entry) → Still e → any (signals_in h) (now_in exit past) ≡ false
      → Fact p h past e
  calm-fact past e s silent =
      mild-fact past e (record { from = s.from; halt = s.halt; access = s.access }) silent
      (λ c stream f g. let r = case-of p.cases c h stream f in
      absurd (s.start c (slice_get_within p.cases.cases c r.0 r.1)
      (eqb-true e.next (start_of p h c) (and_parts _ _ g).0)))

  -- ---- what a calm entry leaves

  pub phase-stays : (past : List Entry) (e : Entry) → e.pc ≢ exit → phase_in exit (e ∷ past) ≡ phase_in exit past
  phase-stays past e n = ap (λ (b : Bool). if b then suc (phase_in exit past) else phase_in exit past)
      (ne_eqb e.pc exit n)

  pub now-stays : (past : List Entry) (e : Entry) → e.pc ≢ exit → now_in exit (e ∷ past) ≡ e ∷ now_in exit past
  now-stays past e n =
      ap (λ (q : ℕ). steps_in exit q (e ∷ past)) (phase-stays past e n)
      ∙ ap (λ (b : Bool). if b then e ∷ steps_in exit (phase_in exit past) past
      else steps_in exit (phase_in exit past) past) (eq-eqb (phase_in exit past) (phase_in exit past) refl)

  outside-more : (o : Option ℕ) (n : ℕ) → one_outside o n ≤ suc n
  outside-more None n = omega arith
  outside-more (Some c) n = omega arith

  -- at most one step of work more, in the phase that the hart is in
  pub work-more : (r : ℕ) (past : List Entry) (e : Entry)
      → work_in p h r (e ∷ past) ≤ (if phase_in exit past == r then suc (work_in p h r past) else work_in p h r past)
  work-more r past e = by (lately_at p h 4 (e ∷ past)) (phase_in exit past == r)
    where
      by : (a b : Bool)
          → (if a then work_in p h r past else (if b then one_outside (stream_at p h e.pc) (work_in p h r past)
          else work_in p h r past)) ≤ (if b then suc (work_in p h r past) else work_in p h r past)
      by true true = omega arith
      by true false = omega arith
      by false true = outside-more (stream_at p h e.pc) (work_in p h r past)
      by false false = omega arith

  module _ (limit : ℕ → ℕ) where
    pub steady-one : (q c o : ℕ) (ms : List Mark) (past : List Entry) (e : Entry) → c ≤ case_count p → Still e
        → arrivals p h e.pc e.next ≡ [] → suc o ≤ limit q → Steady p h limit q c o ms past
        → Steady p h limit q c (suc o) ms (e ∷ past)
    steady-one q c o ms past e l s mark room a = record {
      phase = phase-stays past e s.from ∙ a.phase;
      way = whole ∙ a.way;
      silent = ap (any (signals_in h)) (now-stays past e s.from) ∙ ap₂ (λ (x y : Bool). x || y) (not-signals e s.access)
          a.silent;
      judged = λ d m. or_right (reports d h e) (any (reports d h) past) (a.judged d m);
      unjudged = λ d m n. ap₂ (λ (x y : Bool). x || y) (not-reports d h e n number s.access) (a.unjudged d m n);
      few = here q (phase_in exit past == q) (eq-eqb (phase_in exit past) q a.phase);
      told = record {
        order = subst (λ (w : List Mark). IsFront w (whole_way p)) (sym whole) a.told.order;
        story = (calm-fact past e s a.silent, a.told.story);
        pace = λ r. each r (phase_in exit past == r) refl;
      };
    }
      where
        whole : trail (arrivals p h) (e ∷ past) ≡ trail (arrivals p h) past
        whole = ap (λ (w : List Mark). trail (arrivals p h) past ++ w) mark ∙ append-nil (trail (arrivals p h) past)

        here : (r : ℕ) (b : Bool) → (phase_in exit past == q) ≡ true → work_in p h q (e ∷ past) ≤ suc o
        here r b f = let m =
            subst (λ (x : Bool). work_in p h q (e ∷ past)
            ≤ (if x then suc (work_in p h q past) else work_in p h q past)) f (work-more q past e) in
            omega (arith, m, a.few)

        each : (r : ℕ) (b : Bool) → (phase_in exit past == r) ≡ b → work_in p h r (e ∷ past) ≤ limit r
        each r true f =
            let same : q ≡ r = sym a.phase ∙ eqb-true (phase_in exit past) r f in
            subst (λ (x : ℕ). work_in p h x (e ∷ past) ≤ limit x) same
            (let m = here q true (eq-eqb (phase_in exit past) q a.phase) in omega arith)
        each r false f = let m =
            subst (λ (x : Bool). work_in p h r (e ∷ past)
            ≤ (if x then suc (work_in p h r past) else work_in p h r past)) f (work-more r past e) in
            omega (arith, m, a.told.pace r)

    -- ---- a calm part

    module _ (lo hi : ℕ) (clear : Clear p h lo hi) where
      unmarked : (e : Entry) → Does lo hi (IsCalm h) e → (c : ℕ) → c < case_count p → Unmarked p h e.pc e.next c
      unmarked e d c l = quiet-off p h e.pc e.next c (clear.some c l) (by (clear.streams c l))
        where
          by : (hi < start_of p h c) ⊎ (end_of p h c ≤ lo) → (e.next < start_of p h c) ⊎ (end_of p h c < e.next)
          by (inl x) = inl (omega (arith, d.most))
          by (inr x) = inr (omega (arith, d.least))

      apart : (a : ℕ) (e : Entry) → Does lo hi (IsCalm h) e → (hi < a) ⊎ (a < lo) → (e.pc ≢ a) × (e.next ≢ a)
      apart a e d (inl x) = ((λ z. omega (arith, z, d.below)), (λ z. omega (arith, z, d.most)))
      apart a e d (inr x) = ((λ z. omega (arith, z, d.from)), (λ z. omega (arith, z, d.least)))

      still-of : (e : Entry) → Does lo hi (IsCalm h) e → Still e
      still-of e d = record {
        from = (apart exit e d clear.exit).0;
        start = λ c l z. starts c l z (clear.streams c l);
        halt = (apart (halt_of p h) e d clear.halt).1;
        access = d.access;
      }
        where
          starts : (c : ℕ) → c < case_count p → e.next ≡ start_of p h c → (hi < start_of p h c) ⊎ (end_of p h c ≤ lo)
              → ⊥
          starts c l z (inl x) = omega (arith, z, d.most)
          starts c l z (inr x) = omega (arith, z, d.least, clear.some c l)

      pub steady-part : (q c o n : ℕ) (ms : List Mark) (es past : List Entry) → c ≤ case_count p → length es ≤ n
          → o + n ≤ limit q → Each (Does lo hi (IsCalm h)) es → Steady p h limit q c o ms past
          → Steady p h limit q c (o + length es) ms (es ++ past)
      steady-part q c o n ms [] past l few room each a = let e : o ≡ o + 0 = omega arith in
          subst (λ (k : ℕ). Steady p h limit q c k ms past) e a
      steady-part q c o n ms (e ∷ es) past l few room each a =
          let before = steady-part q c o n ms es past l (omega arith) room each.1 a in
          let k : suc (o + length es) ≡ o + suc (length es) = omega arith in
          let d = each.0 in
          subst (λ (k : ℕ). Steady p h limit q c k ms (e ∷ es ++ past)) k
          (steady-one q c (o + length es) ms (es ++ past) e l (still-of e d)
          (arrivals-none p h e.pc e.next (unmarked e d) (apart exit e d clear.exit).1
          (apart (halt_of p h) e d clear.halt).1) (omega arith) before)
