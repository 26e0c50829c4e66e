-- A stay in a stream tells what it should.
use Rattle.std.proofs.Common.{◌≡◌, ◌≢◌, ◌⊎◌, inl, inr, ℕ, ◌+◌, ◌<◌, ◌≤◌, Bool, true, false, true≢false}
use Rattle.std.proofs.Common.{not, ◌==◌, eqb-true, List, [], ◌∷◌, Option, None, Some, refl, sym, ap}
use Rattle.std.proofs.Common.{◌∙◌, subst, arith}
use Rattle.std.specs.Prelude.{IsTrue, IfSome, if◌then◌else◌}
use Rattle.std.proofs.lemmas.Bool.{cases_eq, and_parts}
use Rattle.std.proofs.lemmas.Bool.Decides.{nat_tests}
use Rattle.std.proofs.lemmas.Option.{slice_get_within}
use Rattle.tm_table.specs.declared.state.Access.{Access}
use Rattle.tm_table.specs.declared.state.Access.TheVariants.{Quiet, Read, Write}
use Rattle.tm_plan_cases.specs.declared.program.Program.{Program}
use Rattle.tm_plan_map.specs.Map.{verdict_at, flag_at, windows_base, windows_size}
use Rattle.tm_base.specs.Lists.{any}
use Rattle.tm_base.proofs.ListLemmas.{no}
use Rattle.tm_plan_cases.specs.Shaped.{MasksFit}
use Rattle.tm_world.specs.Place.{harts, case_count, start_of, end_of, exit_of, halt_of, inside, is_window}
use Rattle.tm_world.specs.Kinds.{stream_at, writes_flag}
use Rattle.tm_world.specs.Marks.{Enter, End, comes_to, arrivals}
use Rattle.tm_world.specs.Course.{writes_in, round_before}
use Rattle.tm_world.proofs.Streams.{case-of}
use Rattle.tm_world.proofs.Accesses.{writes-itself}
use Rattle.tm_runs.specs.Machine.{World, State, Entry, Strays, StreamAccess}
use Rattle.tm_runs.specs.World.{world_of, bounds, bounds_at}
use Rattle.tm_runs.proofs.Arrivals.{Quiet as Unmarked, quiet-off, quiet-in, ends, arrivals-none, arrivals-end}
use Rattle.tm_runs.proofs.Arrivals.{stream-some, inside-true, inside-false}
use Rattle.tm_plan_map.proofs.Within.{within-parts}
use Rattle.tm_legal.proofs.Formed.{formed-sizes}
use Rattle.tm_legal.specs.Tame.{Formed}
use Rattle.tm_stays.specs.Stays.{one_outside}
use Rattle.tm_pass_way.specs.Logs.{work_in}
use Rattle.tm_runs.specs.Phases.{phase_in, now_in, signals_in, lately_at}
use Rattle.tm_pass_way.specs.Facts.{Fact, Gathering}
use Rattle.tm_pass_way.specs.Calm.{StreamClear}
use Rattle.tm_pass_way.proofs.Calm.{verdict-low, flag-low, private-below}

-- a stream writes windows alone
window-above : (b : ℕ) → is_window b ≡ true → windows_base ≤ b
window-above b e = (within-parts windows_base windows_size b e).0

module _ (p : Program) (formed : Formed p) (fit : MasksFit p.cases p.masks) (h : ℕ) (number : h < harts p) (limit : ℕ
    → ℕ) (c : ℕ) (here : c < case_count p) (clear : StreamClear p h c) where
  abbrev w : World
  w = world_of p h

  abbrev exit : ℕ
  exit = exit_of p h

  abbrev lo : ℕ
  lo = start_of p h c

  abbrev hi : ℕ
  hi = end_of p h c

  low : h < 16
  low = let s = (formed-sizes formed).harts in omega arith

  pub held : (a : ℕ) → lo ≤ a → a < hi → stream_at p h a ≡ Some c
  held a l m = stream-some p h c a here (inside-true p h c a l m)
      (λ d n. inside-false p h d a (by d (clear.others d (omega arith) (λ z. omega arith))))
    where
      by : (d : ℕ) → (hi < start_of p h d) ⊎ (end_of p h d < lo) → (a < start_of p h d) ⊎ (end_of p h d ≤ a)
      by d (inl x) = inl (omega arith)
      by d (inr x) = inr (omega arith)

  pub held-bounds : (a : ℕ) → lo ≤ a → a < hi → w.stream a ≡ Some (lo, hi)
  unfolding bounds_at
  held-bounds a l m = ap (bounds p h) (held a l m)

  -- ---- an entry of a stay

  pub record Strolls (e : Entry) : Type 0 where
    pub from : lo ≤ e.pc
    pub below : e.pc < hi
    pub least : lo ≤ e.next
    pub most : e.next ≤ hi
    pub access : StreamAccess w e.access

  pub strolls : (t u : State) → lo ≤ t.pc → t.pc < hi → (r : Strays w lo hi t u) → Strolls r.entry
  strolls t u a b r = record {
    from = omega (arith, r.from);
    below = omega (arith, r.from);
    least = omega (arith, r.next, r.least);
    most = omega (arith, r.next, r.most);
    access = r.access;
  }

  not-writes : (a : ℕ) (x : Access) → a + 8 ≤ windows_base → StreamAccess w x → writes_in a 8 x ≡ false
  not-writes a Quiet l s = refl
  not-writes a (Read addr width v) l s = refl
  not-writes a (Write addr width v) l s = let k : windows_base ≤ addr + 0 =
      window-above (addr + 0) (s.1 0 (omega (arith, s.0))) in grind (arith, nat_tests)

  pub not-flag : (x : Access) → StreamAccess w x → writes_flag h x ≡ false
  not-flag Quiet s = refl
  not-flag (Read addr width v) s = refl
  not-flag (Write addr width v) s =
      let k : windows_base ≤ addr + 0 = window-above (addr + 0) (s.1 0 (omega (arith, s.0))) in
      let f : flag_at h + 8 ≤ windows_base = omega (arith, flag-low h h low, private-below h low) in
      grind (arith, nat_tests)

  pub not-reports : (d g : ℕ) (e : Entry) → d < case_count p → g < harts p → Strolls e
      → writes_in (verdict_at d g) 8 e.access ≡ false
  not-reports d g e l m s =
      let f = formed.program.cases.count in
      let k = (formed-sizes formed).harts in
      not-writes (verdict_at d g) e.access (omega (
        arith,
        verdict-low d g h (omega arith) (omega arith),
        private-below h low,
      )) s.access

  pub no-exit : (e : Entry) → Strolls e → (e.pc ≢ exit) × (e.next ≢ exit)
  no-exit e s = by clear.exit
    where
      by : (exit < lo) ⊎ (hi < exit) → (e.pc ≢ exit) × (e.next ≢ exit)
      by (inl x) = ((λ z. omega (arith, z, s.from)), (λ z. omega (arith, z, s.least)))
      by (inr x) = ((λ z. omega (arith, z, s.below)), (λ z. omega (arith, z, s.most)))

  no-halt : (e : Entry) → Strolls e → e.next ≢ halt_of p h
  no-halt e s = by clear.halt
    where
      by : (halt_of p h < lo) ⊎ (hi < halt_of p h) → e.next ≢ halt_of p h
      by (inl x) = λ z. omega (arith, z, s.least)
      by (inr x) = λ z. omega (arith, z, s.most)

  no-enter : (d : ℕ) (e : Entry) → d < case_count p → Strolls e → IsTrue (comes_to p h (Enter d) e.pc e.next) → ⊥
  no-enter d e l s z = by (cases_eq d c)
    where
      at : e.next ≡ start_of p h d
      at = eqb-true e.next (start_of p h d) ((and_parts (e.next == start_of p h d) (not (inside p h d e.pc)) z).0)

      off : (hi < start_of p h d) ⊎ (end_of p h d < lo) → ⊥
      off (inl x) = omega (arith, at, s.most)
      off (inr x) = omega (arith, at, s.least, clear.rising d l)

      by : (d ≡ c) ⊎ (d ≡ c → ⊥) → ⊥
      by (inl x) =
          let i : inside p h d e.pc ≡ true = subst (λ (k : ℕ). inside p h k e.pc
          ≡ true) (sym x) (inside-true p h c e.pc s.from s.below) in
          true≢false (sym ((and_parts (e.next == start_of p h d) (not (inside p h d e.pc)) z).1) ∙ ap not i)
      by (inr x) = off (clear.others d l x)

  pub stroll-fact : (past : List Entry) (e : Entry) → Strolls e → any (signals_in h) (now_in exit past) ≡ false
      → round_before p (phase_in exit past) ≡ None → Fact p h past e
  stroll-fact past e s silent odd = record {
    fresh = λ d stream f g. let r = case-of p.cases d h stream f in
        absurd (no-enter d e (slice_get_within p.cases.cases d r.0 r.1) s g);
    behind = λ d l g. absurd (no-enter d e l s g);
    verdict = λ d g l m f. no (not-reports d g e l m s) f;
    exact = λ d m v f g. no (not-reports d h e (let n = slice_get_within p.masks.cases d m f in
        omega (arith, fit.count)) number s) (ap (writes_in (verdict_at d h) 8) g ∙ writes-itself (verdict_at d h) v);
    halt = λ z. absurd (no-halt e s z);
    halted = λ z. absurd (no-halt e s z);
    writes = λ z. let f : ◌≡◌ {A = Option ℕ} None (Some c) = sym z ∙ held e.pc s.from s.below in cc;
    barrier = record {
      signal = λ z. no (not-flag e.access s.access) z;
      still = λ z. no silent z;
      leave = λ z. absurd ((no-exit e s).0 z);
    };
    collects = subst (λ (o : Option ℕ). IfSome o (λ d. Gathering p h past e)) (sym odd) tt;
    sets = λ z. no (not-flag e.access s.access) z;
  }

  -- ---- marks

  others-off : (d : ℕ) (e : Entry) → d < case_count p → d ≢ c → Strolls e → Unmarked p h e.pc e.next d
  others-off d e l n s = quiet-off p h e.pc e.next d (clear.rising d l) (by (clear.others d l n))
    where
      by : (hi < start_of p h d) ⊎ (end_of p h d < lo) → (e.next < start_of p h d) ⊎ (end_of p h d < e.next)
      by (inl x) = inl (omega (arith, s.most))
      by (inr x) = inr (omega (arith, s.least))

  pub mark-in : (e : Entry) → Strolls e → e.next < hi → arrivals p h e.pc e.next ≡ []
  mark-in e s l = arrivals-none p h e.pc e.next (λ d m. by d m (cases_eq d c)) (no-exit e s).1 (no-halt e s)
    where
      by : (d : ℕ) → d < case_count p → (d ≡ c) ⊎ (d ≡ c → ⊥) → Unmarked p h e.pc e.next d
      by d m (inl x) = subst (λ (k : ℕ). Unmarked p h e.pc e.next k) (sym x)
          (quiet-in p h e.pc e.next c (inside-true p h c e.pc s.from s.below) l)
      by d m (inr x) = others-off d e m x s

  pub mark-end : (e : Entry) → Strolls e → e.next ≡ hi → arrivals p h e.pc e.next ≡ End c ∷ []
  mark-end e s l =
      let m = ends p h e.pc e.next c l (inside-true p h c e.pc s.from s.below) in
      arrivals-end p h e.pc e.next c here (λ d n x. others-off d e n x s) (no-exit e s).1 (no-halt e s) m.0 m.1 m.2

  -- ---- work

  pub work-same : (r : ℕ) (past : List Entry) (e : Entry) → Strolls e → work_in p h r (e ∷ past) ≡ work_in p h r past
  work-same r past e s = by (lately_at p h 4 (e ∷ past)) (phase_in exit past == r)
    where
      by : (a b : Bool)
          → (if a then work_in p h r past else (if b then one_outside (stream_at p h e.pc) (work_in p h r past)
          else work_in p h r past)) ≡ work_in p h r past
      by true b = refl
      by false true = ap (λ (o : Option ℕ). one_outside o (work_in p h r past)) (held e.pc s.from s.below)
      by false false = refl
