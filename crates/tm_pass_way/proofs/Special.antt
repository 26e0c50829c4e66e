-- The two entries of support code that calm parts don't have: the one that enters a stream, and the one that writes a
-- verdict.
use Rattle.std.proofs.Common.{◌≡◌, ◌≢◌, ◌⊎◌, inl, inr, ℕ, suc, ◌+◌, ◌*◌, ◌%◌, ◌<◌, ◌≤◌, Bool, true, false}
use Rattle.std.proofs.Common.{◌&&◌, ◌||◌, nat_lt, eqb-true, List, ◌∷◌, Option, None, Some}
use Rattle.std.proofs.Common.{sym, ap, ◌∙◌, subst, arith}
use Rattle.std.specs.Prelude.{slice_get, slice_index, slice_index_or, IsTrue, IsFalse, IfSome}
use Rattle.std.proofs.lemmas.Bool.{cases_lt, cases_eq, or_right, and_parts}
use Rattle.std.proofs.lemmas.Bool.Decides.{nat_tests}
use Rattle.std.proofs.lemmas.Option.{slice_get_within}
use Rattle.tm_table.specs.declared.state.Access.TheVariants.{Write}
use Rattle.tm_plan_cases.specs.declared.cases.Stream.{Stream}
use Rattle.tm_plan_cases.specs.declared.masks.CaseMask.{CaseMask}
use Rattle.tm_plan_cases.specs.declared.program.Program.{Program}
use Rattle.tm_plan_map.specs.Map.{verdict_at, flag_at, window_at, windows_base, within}
use Rattle.tm_plan_cases.specs.Collected.{is_declared, owned}
use Rattle.tm_base.specs.Lists.{any}
use Rattle.tm_base.proofs.ListLemmas.{any-number, no}
use Rattle.tm_plan_cases.specs.Shaped.{MasksFit}
use Rattle.tm_world.specs.Place.{harts, case_count, passes, start_of, end_of, exit_of, halt_of, is_private, is_flag}
use Rattle.tm_world.specs.Place.{is_verdict, is_window}
use Rattle.tm_world.specs.Run.{Writes}
use Rattle.tm_world.specs.Writers.{may_write, may_write_window}
use Rattle.tm_plan_cases.specs.Streams.{stream_in}
use Rattle.tm_world.specs.Kinds.{writes_flag}
use Rattle.tm_world.specs.Course.{writes_in, reads_in, writes_shared, round_before}
use Rattle.tm_world.proofs.Streams.{case-of}
use Rattle.tm_world.proofs.Accesses.{writes-itself}
use Rattle.tm_runs.specs.Machine.{Entry, Table}
use Rattle.tm_plan_map.proofs.Within.{within-true}
use Rattle.tm_legal.proofs.Formed.{formed-sizes}
use Rattle.tm_legal.specs.Tame.{Formed}
use Rattle.tm_pass_way.specs.Logs.{reports, IsVerdictIn}
use Rattle.tm_runs.specs.Phases.{phase_in, now_in, signals_in}
use Rattle.tm_pass_way.specs.Facts.{Fact, Gathered, Gathering, Reporting}
use Rattle.tm_pass_way.specs.Parts.{phase_at, PassTold, IsFound}
use Rattle.tm_pass_way.specs.Calm.{StreamClear}
use Rattle.tm_pass_way.proofs.Gathered.{told-gathered}
use Rattle.tm_pass_way.proofs.Calm.{Mild, mild-fact, now-stays, undeclared, window-high, any-none}
use Rattle.tm_pass_way.proofs.Judged.{found-verdict}

-- ---- verdict cells

-- cells that overlap are one
pub same-cell : (c d g h : ℕ) → g < 16 → h < 16 → (nat_lt (verdict_at c h) (verdict_at d g + 8)
    && nat_lt (verdict_at d g) (verdict_at c h + 8)) ≡ true → (d ≡ c) × (g ≡ h)
unfolding verdict_at
same-cell c d g h l m e =
    let a : 2160070656 + 8 * (16 * c + h) < 2160070656 + 8 * (16 * d + g) + 8 = grind (arith, nat_tests) in
    let b : 2160070656 + 8 * (16 * d + g) < 2160070656 + 8 * (16 * c + h) + 8 = grind (arith, nat_tests) in
    (omega arith, omega arith)

cell-low : (c h : ℕ) → c < 32 → h < 16 → verdict_at c h + 8 ≤ windows_base
unfolding verdict_at windows_base
cell-low c h l m = omega arith

flag-first : (c h : ℕ) → h < 16 → flag_at h + 8 ≤ verdict_at c h
unfolding verdict_at flag_at
flag-first c h m = omega arith

pub cell-flag : (c h v : ℕ) → h < 16 → writes_flag h (Write (verdict_at c h) 8 v) ≡ false
cell-flag c h v m = let l = flag-first c h m in grind (arith, nat_tests)

module _ (p : Program) (formed : Formed p) (fit : MasksFit p.cases p.masks) (h : ℕ) (number : h < harts p) where
  abbrev exit : ℕ
  exit = exit_of p h

  -- ---- entering

  -- An entry that comes to stream c's start with the stream's first registers.
  pub entering-fact : (past : List Entry) (e : Entry) (c : ℕ) → StreamClear p h c → Mild p formed fit h number e
      → e.next ≡ start_of p h c
      → ((stream : Stream) → stream_in p.cases c h ≡ Some stream → (r : ℕ) → 1 ≤ r → r < 32
      → e.regs r ≡ slice_index stream.regs r)
      → any (signals_in h) (now_in exit past) ≡ false → Fact p h past e
  entering-fact past e c clear mild to fresh silent =
      mild-fact p formed fit h number past e mild silent
      (λ d stream f g. by d stream f (eqb-true e.next (start_of p h d) (and_parts _ _ g).0) (cases_eq d c))
    where
      off : (d : ℕ) → d < case_count p → e.next ≡ start_of p h d → (end_of p h c < start_of p h d)
          ⊎ (end_of p h d < start_of p h c) → ⊥
      off d l z (inl x) = let s = clear.some in omega (arith, z, to)
      off d l z (inr x) = let s = clear.rising d l in omega (arith, z, to)

      by : (d : ℕ) (stream : Stream) → stream_in p.cases d h ≡ Some stream → e.next ≡ start_of p h d → (d ≡ c)
          ⊎ (d ≡ c → ⊥) → (r : ℕ) → 1 ≤ r → r < 32 → e.regs r ≡ slice_index stream.regs r
      by d stream f z (inl x) = fresh stream (ap (λ (k : ℕ). stream_in p.cases k h) (sym x) ∙ f)
      by d stream f z (inr x) =
          let r = case-of p.cases d h stream f in
          let l = slice_get_within p.cases.cases d r.0 r.1 in
          absurd (off d l z (clear.others d l x))

  -- ---- the verdict

  -- the store of a verdict, in the phase behind the last pass of case c, once all of the pass is collected
  pub verdict-fact : (past : List Entry) (e : Entry) (c v : ℕ) (m : CaseMask) (mem : Table) → c < case_count p
      → slice_get p.masks.cases c ≡ Some m
      → e.access ≡ Write (verdict_at c h) 8 v → e.pc ≢ exit → ((d : ℕ) → d < case_count p → e.next ≢ start_of p h d)
      → (e.next ≡ halt_of p h → suc c ≡ case_count p)
      → phase_in exit past ≡ phase_at p (suc c) 0 → any (signals_in h) (now_in exit past) ≡ false
      → ((d : ℕ) → d < c → any (reports d h) past ≡ true) → any (reports c h) past ≡ false
      → Gathered p h (now_in exit past)
      → ((j : ℕ) → j < passes p → PassTold p h c j past mem) → IsFound p m h mem v → Fact p h past e
  verdict-fact past e c v m mem here mask is from starts halts phase silent judged once gathered told finds = record {
    fresh = λ d stream f g. let r = case-of p.cases d h stream f in
        absurd (starts d (slice_get_within p.cases.cases d r.0 r.1)
        (eqb-true e.next (start_of p h d) (and_parts _ _ g).0));
    behind = λ d l g. absurd (starts d l (eqb-true e.next (start_of p h d) (and_parts _ _ g).0));
    verdict = λ d g l n f.
        let s = same d g n (sym (ap (writes_in (verdict_at d g) 8) is) ∙ f) in (
          s.1,
          subst (λ (x : ℕ). Reporting p h x past e) (sym s.0) (record {
            value = (v, is);
            once = once;
            ended = λ k l. omega (arith, phase);
            collected = λ k l. told-gathered p h c k past mem (told k l);
          }),
        );
    exact = λ d n u f g.
        let z : Write (verdict_at c h) 8 v ≡ Write (verdict_at d h) 8 u = sym is ∙ g in
        let s = same d h number (ap (λ (b : ℕ). nat_lt (verdict_at c h) (b + 8) && nat_lt b (verdict_at c h + 8))
        (sym (address z)) ∙ writes-itself (verdict_at c h) 0) in
        let f2 : slice_get p.masks.cases c ≡ Some n = ap (slice_get p.masks.cases) (sym s.0) ∙ f in
        let w : m ≡ n = some-same (sym mask ∙ f2) in
        subst (λ (x : ℕ). IsVerdictIn p n h x past u) (sym s.0) (subst (λ (x : CaseMask). IsVerdictIn p x h c past u) w
        (subst (λ (x : ℕ). IsVerdictIn p m h c past x) (value z)
        (found-verdict p h c m past mem (let k = formed.program.cases.passes.0 in omega arith) told v finds)));
    halt = λ z d l. by-halt d l (halts z) (cases_lt d c);
    halted = λ z. subst (λ (es : List Entry). IfSome (round_before p (phase_in exit (e ∷ past))) (λ d. Gathered p h es))
        (sym (now-stays p formed fit h number past e from)) (all-more (round_before p (phase_in exit (e ∷ past))));
    writes = λ _. subst (Writes (λ b. IsTrue (may_write p (phase_in exit past) h b)
        × (phase_in exit past % 2 ≡ 1 → IsFalse (is_declared p.cases b)))) (sym is)
        (λ i l. (
          may-verdict (phase_in exit past) i l,
          λ _. undeclared p (verdict_at c h + i) (omega (arith, low-cell)),
        ));
    barrier = record { signal = λ z. no not-flag z; still = λ z. no silent z; leave = λ z. absurd (from z) };
    collects = gathers (round_before p (phase_in exit past));
    sets = λ z. no not-flag z;
  }
    where
      few : (c < 32) × (h < 16)
      few = let a = formed.program.cases.count in let b = (formed-sizes formed).harts in (omega arith, omega arith)

      low-cell : verdict_at c h + 8 ≤ windows_base
      low-cell = cell-low c h few.0 few.1

      same : (d g : ℕ) → g < harts p → (nat_lt (verdict_at c h) (verdict_at d g + 8)
          && nat_lt (verdict_at d g) (verdict_at c h + 8)) ≡ true → (d ≡ c) × (g ≡ h)
      same d g n f = let b = (formed-sizes formed).harts in same-cell c d g h (omega arith) (omega arith) f

      some-same : {a b : CaseMask} → Some a ≡ Some b → a ≡ b
      some-same z = cc

      address : {a b x y : ℕ} → Write a 8 x ≡ Write b 8 y → a ≡ b
      address z = cc

      value : {a b x y : ℕ} → Write a 8 x ≡ Write b 8 y → x ≡ y
      value z = cc

      not-flag : signals_in h e ≡ false
      not-flag = ap (writes_flag h) is ∙ cell-flag c h v few.1

      may-verdict : (q i : ℕ) → i < 8 → may_write p q h (verdict_at c h + i) ≡ true
      may-verdict q i l =
          or_right (is_flag h (verdict_at c h + i)) (is_verdict p h (verdict_at c h + i)
          || (is_private h (verdict_at c h + i)
          || (is_window (verdict_at c h + i) && may_write_window p q h (verdict_at c h + i))))
          (ap (λ (b : Bool). b || (is_private h (verdict_at c h + i)
          || (is_window (verdict_at c h + i) && may_write_window p q h (verdict_at c h + i))))
          (any-number (λ d. within (verdict_at d h) 8 (verdict_at c h + i)) (case_count p) 0 c (omega arith)
          (omega arith) (within-true (verdict_at c h) 8 (verdict_at c h + i) (omega arith) (omega arith))))

      by-halt : (d : ℕ) → d < case_count p → suc c ≡ case_count p → (d < c) ⊎ (c ≤ d) → any (reports d h) (e ∷ past)
          ≡ true
      by-halt d l z (inl x) = or_right (reports d h e) (any (reports d h) past) (judged d x)
      by-halt d l z (inr x) =
          let s : c ≡ d = omega arith in
          subst (λ (k : ℕ). any (reports k h) (e ∷ past) ≡ true) s
          (ap (λ (b : Bool). b || any (reports c h) past) (ap (writes_in (verdict_at c h) 8) is
          ∙ writes-itself (verdict_at c h) 0))

      not-read : (a : ℕ) → reads_in a 8 e.access ≡ false
      not-read a = ap (reads_in a 8) is

      not-shared : writes_shared p e.access ≡ false
      not-shared = ap (writes_shared p) is ∙ any-none
          (λ w. writes_in (window_at w.number) (w.lines * p.cases.line) (Write (verdict_at c h) 8 v)) p.cases.windows
          (λ w. let k = window-high w.number in let n = low-cell in grind (arith, nat_tests))

      all-more : (o : Option ℕ) → IfSome o (λ d. Gathered p h (e ∷ now_in exit past))
      all-more None = tt
      all-more (Some d) = λ k x l. or_right (reads_in (slice_index_or (owned p.cases h) k x) 8 e.access)
          (any (λ (t : Entry). reads_in (slice_index_or (owned p.cases h) k x) 8 t.access) (now_in exit past))
          (gathered k x l)

      gathers : (o : Option ℕ) → IfSome o (λ d. Gathering p h past e)
      gathers None = tt
      gathers (Some d) = record {
        once = λ k x l z. no (not-read (slice_index_or (owned p.cases h) k x)) z;
        before_writes = λ z. no not-shared z;
        before_exit = λ z. absurd (from z);
      }
