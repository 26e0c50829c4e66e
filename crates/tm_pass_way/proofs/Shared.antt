-- The entries of support code that write or read shared memory: the one that sets a dword that the hart collects, and
-- the one that collects it.
use Rattle.std.proofs.Common.{◌≡◌, ◌≢◌, ℕ, ◌+◌, ◌*◌, ◌%◌, ◌<◌, ◌≤◌, Bool, true, false, ◌&&◌}
use Rattle.std.proofs.Common.{◌||◌, ◌==◌, eqb-true, eq-eqb, List, Option, None, Some, refl, sym, ap}
use Rattle.std.proofs.Common.{ap₂, ◌∙◌, subst, arith}
use Rattle.std.specs.Prelude.{slice_index_or, IsTrue, IsFalse, IfSome, if◌then◌else◌}
use Rattle.std.proofs.lemmas.Bool.Decides.{nat_tests}
use Rattle.std.proofs.lemmas.Bool.{or_right, and_parts}
use Rattle.std.proofs.lemmas.Option.{slice_get_within, IfSome_then}
use Rattle.tm_table.specs.declared.state.Access.TheVariants.{Read, Write}
use Rattle.tm_plan_cases.specs.declared.program.Program.{Program}
use Rattle.tm_plan_map.specs.Map.{verdict_at, flag_at, window_at, windows_base}
use Rattle.tm_plan_cases.specs.Collected.{is_declared, owned, collector}
use Rattle.tm_base.specs.Lists.{any}
use Rattle.tm_base.proofs.ListLemmas.{no}
use Rattle.tm_plan_cases.specs.Shaped.{MasksFit}
use Rattle.tm_world.specs.Place.{harts, case_count, passes, start_of, exit_of, halt_of, is_private, is_flag}
use Rattle.tm_world.specs.Place.{is_verdict, is_window}
use Rattle.tm_world.specs.Run.{Writes}
use Rattle.tm_world.specs.Writers.{may_write, may_write_window, may_write_running, case_of_phase}
use Rattle.tm_world.specs.Kinds.{writes_flag}
use Rattle.tm_world.specs.Course.{writes_in, reads_in, writes_shared, round_before}
use Rattle.tm_world.proofs.Streams.{case-of}
use Rattle.tm_world.proofs.Accesses.{one-dword, writes-itself}
use Rattle.tm_runs.specs.Machine.{Entry}
use Rattle.tm_legal.proofs.Formed.{formed-sizes}
use Rattle.tm_legal.specs.Tame.{Formed}
use Rattle.tm_runs.specs.Phases.{phase_in, now_in, signals_in}
use Rattle.tm_plan_owned.proofs.Collected.{owned-even}
use Rattle.tm_pass_way.specs.Facts.{Fact, Gathered, Gathering}
use Rattle.tm_pass_way.proofs.Calm.{verdict-low, flag-low, any-none}
use Rattle.tm_pass_way.proofs.Calm.{private-below}

above-writes : (a b v : ℕ) → a + 8 ≤ b → writes_in a 8 (Write b 8 v) ≡ false
above-writes a b v l = grind (arith, nat_tests)

above-flag : (h b v : ℕ) → flag_at h + 8 ≤ b → writes_flag h (Write b 8 v) ≡ false
above-flag h b v l = grind (arith, nat_tests)

module _ (p : Program) (formed : Formed p) (fit : MasksFit p.cases p.masks) (h : ℕ) (number : h < harts p) where
  abbrev exit : ℕ
  exit = exit_of p h

  -- an entry away from marks
  pub record Away (e : Entry) : Type 0 where
    pub from : e.pc ≢ exit
    pub start : (c : ℕ) → c < case_count p → e.next ≢ start_of p h c
    pub halt : e.next ≢ halt_of p h

  few : h < 16
  few = let b = (formed-sizes formed).harts in omega arith

  cell-below : (d g : ℕ) → d < case_count p → g < harts p → verdict_at d g + 8 ≤ windows_base
  cell-below d g l m = let a = formed.program.cases.count in let b = (formed-sizes formed).harts in
      omega (arith, verdict-low d g h (omega arith) (omega arith), private-below h few)

  some-pass : 1 ≤ passes p
  some-pass = let k = formed.program.cases.passes.0 in omega arith

  -- In an even phase the hart sets a dword of its lines, once it has collected, if there is something to collect.
  pub set-fact : (past : List Entry) (e : Entry) (a v : ℕ) → Away e → e.access ≡ Write a 8 v → windows_base ≤ a
      → ((i : ℕ) → i < 8 → (is_window (a + i) ≡ true) × (collector p.cases (a + i) ≡ h))
      → phase_in exit past % 2 ≡ 0 → any (signals_in h) (now_in exit past) ≡ false
      → IfSome (round_before p (phase_in exit past)) (λ d. Gathered p h (now_in exit past)) → Fact p h past e
  set-fact past e a v s is high mine even silent gathered = record {
    fresh = λ c stream f g. let r = case-of p.cases c h stream f in
        absurd (s.start c (slice_get_within p.cases.cases c r.0 r.1)
        (eqb-true e.next (start_of p h c) (and_parts _ _ g).0));
    behind = λ c l g. s.from;
    verdict = λ d g l m f. no (not-cell d g l m) f;
    exact = λ d m u f g. let l : d < case_count p = let n = slice_get_within p.masks.cases d m f in omega
        (arith, fit.count) in
        no (not-cell d h l number) (ap (writes_in (verdict_at d h) 8) g ∙ writes-itself (verdict_at d h) u);
    halt = λ z. absurd (s.halt z);
    halted = λ z. absurd (s.halt z);
    writes = λ _. subst (Writes (λ b. IsTrue (may_write p (phase_in exit past) h b)
        × (phase_in exit past % 2 ≡ 1 → IsFalse (is_declared p.cases b)))) (sym is)
        (λ i l. (may i l, λ z. absurd (omega (arith, z, even))));
    barrier = record { signal = λ z. no not-flag z; still = λ z. no silent z; leave = λ z. absurd (s.from z) };
    collects = IfSome_then (round_before p (phase_in exit past)) gathered (λ d g. record {
      once = λ k x l z. no (ap (reads_in (slice_index_or (owned p.cases h) k x) 8) is) z;
      before_writes = λ z. g;
      before_exit = λ z. absurd (s.from z);
    });
    sets = λ z. no not-flag z;
  }
    where
      not-cell : (d g : ℕ) → d < case_count p → g < harts p → writes_in (verdict_at d g) 8 e.access ≡ false
      not-cell d g l m = ap (writes_in (verdict_at d g) 8) is ∙ above-writes (verdict_at d g) a v
          (let z = cell-below d g l m in omega arith)

      not-flag : signals_in h e ≡ false
      not-flag = ap (writes_flag h) is ∙ above-flag h a v (let x = flag-low h h few in let y = private-below h few in
          omega arith)

      may : (i : ℕ) → i < 8 → may_write p (phase_in exit past) h (a + i) ≡ true
      may i l =
          let q = phase_in exit past in
          let b = a + i in
          let m = mine i l in
          or_right (is_flag h b) (is_verdict p h b || (is_private h b || (is_window b && may_write_window p q h b)))
          (or_right (is_verdict p h b) (is_private h b || (is_window b && may_write_window p q h b))
          (or_right (is_private h b) (is_window b && may_write_window p q h b)
          (ap₂ (λ (x y : Bool). x && y) m.0 (ap (λ (x : Bool). if x then collector p.cases b == h
          else may_write_running p (case_of_phase p q) h b) (eq-eqb (q % 2) 0 even) ∙ eq-eqb (collector p.cases b) h
          m.1))))

  -- Behind a run phase the hart reads a dword that it collects, for the first time.
  pub collect-fact : (past : List Entry) (e : Entry) (a v : ℕ) → Away e → e.access ≡ Read a 8 v → a % 8 ≡ 0
      → any (λ (t : Entry). reads_in a 8 t.access) (now_in exit past) ≡ false
      → any (signals_in h) (now_in exit past) ≡ false → Fact p h past e
  collect-fact past e a v s is aligned unread silent = record {
    fresh = λ c stream f g. let r = case-of p.cases c h stream f in
        absurd (s.start c (slice_get_within p.cases.cases c r.0 r.1)
        (eqb-true e.next (start_of p h c) (and_parts _ _ g).0));
    behind = λ c l g. s.from;
    verdict = λ d g l m f. no (ap (writes_in (verdict_at d g) 8) is) f;
    exact = λ d m u f g. no (ap (writes_in (verdict_at d h) 8) is)
        (ap (writes_in (verdict_at d h) 8) g ∙ writes-itself (verdict_at d h) u);
    halt = λ z. absurd (s.halt z);
    halted = λ z. absurd (s.halt z);
    writes = λ _. subst (Writes (λ b. IsTrue (may_write p (phase_in exit past) h b)
        × (phase_in exit past % 2 ≡ 1 → IsFalse (is_declared p.cases b)))) (sym is) tt;
    barrier = record {
      signal = λ z. no (ap (writes_flag h) is) z;
      still = λ z. no silent z;
      leave = λ z. absurd (s.from z);
    };
    collects = gathers (round_before p (phase_in exit past)) refl;
    sets = λ z. no (ap (writes_flag h) is) z;
  }
    where
      gathers : (o : Option ℕ) → round_before p (phase_in exit past) ≡ o → IfSome o (λ d. Gathering p h past e)
      gathers None f = tt
      gathers (Some d) f = record {
        once = λ k x l z.
            let b = slice_index_or (owned p.cases h) k x in
            let same : a ≡ b = one-dword b a v (owned-even p h k x l) aligned (sym (ap (reads_in b 8) is) ∙ z) in (
              (v, is ∙ ap (λ (y : ℕ). Read y 8 v) same),
              ap (λ (y : ℕ). any (λ (t : Entry). reads_in y 8 t.access) (now_in exit past)) (sym same) ∙ unread,
            );
        before_writes =
            λ z. no (ap (writes_shared p) is ∙ any-none
            (λ w. writes_in (window_at w.number) (w.lines * p.cases.line) (Read a 8 v)) p.cases.windows (λ w. refl)) z;
        before_exit = λ z. absurd (s.from z);
      }
