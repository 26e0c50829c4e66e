-- An entry of a barrier tells what it should, where it keeps the barrier's own part of the course.
use Rattle.std.proofs.Common.{◌≡◌, ◌≢◌, ◌⊎◌, inl, inr, ℕ, suc, ◌+◌, ◌*◌, ◌%◌, ◌<◌, ◌≤◌, Bool, false}
use Rattle.std.proofs.Common.{◌&&◌, ◌||◌, nat_lt, eqb-true, List, Option, None, Some}
use Rattle.std.proofs.Common.{refl, ap, ◌∙◌, arith}
use Rattle.std.specs.Prelude.{slice_index_or, IsTrue, IsFalse, IfSome}
use Rattle.std.proofs.lemmas.Bool.Decides.{nat_tests}
use Rattle.std.proofs.lemmas.Bool.{or_right, and_parts}
use Rattle.std.proofs.lemmas.Option.{slice_get_within}
use Rattle.tm_base.proofs.ListLemmas.{no}
use Rattle.tm_table.specs.declared.state.Access.{Access}
use Rattle.tm_table.specs.declared.state.Access.TheVariants.{Quiet, Read, Write}
use Rattle.tm_plan_cases.specs.declared.program.Program.{Program}
use Rattle.tm_plan_map.specs.Map.{verdict_at, flag_at, private_at, private_size, window_at, windows_base}
use Rattle.tm_plan_cases.specs.Collected.{is_declared, owned}
use Rattle.tm_plan_cases.specs.Shaped.{MasksFit}
use Rattle.tm_world.specs.Place.{harts, case_count, start_of, exit_of, halt_of, is_private, is_flag, is_verdict}
use Rattle.tm_world.specs.Place.{is_window}
use Rattle.tm_world.specs.Run.{Writes}
use Rattle.tm_world.specs.Writers.{may_write, may_write_window, case_of_phase}
use Rattle.tm_world.specs.Course.{writes_in, reads_in, writes_shared, round_before}
use Rattle.tm_world.proofs.Streams.{case-of}
use Rattle.tm_world.proofs.Accesses.{writes-itself}
use Rattle.tm_runs.specs.Machine.{Entry}
use Rattle.tm_plan_map.proofs.Within.{within-true}
use Rattle.tm_legal.proofs.Formed.{formed-sizes}
use Rattle.tm_legal.specs.Tame.{Formed}
use Rattle.tm_blocks_base.specs.Laws.{Uses}
use Rattle.tm_runs.specs.Phases.{phase_in, now_in, signals_in}
use Rattle.tm_pass_way.specs.Facts.{Fact, Gathered, Gathering, AreSet}
use Rattle.tm_runs.specs.Phases.{Keeping}
use Rattle.tm_pass_way.specs.Calm.{IsBelow, IsOwn}
use Rattle.tm_pass_way.proofs.Calm.{verdict-low, undeclared, window-high, any-none}
use Rattle.tm_plan_owned.proofs.Collected.{owned-above}
use Rattle.tm_pass_way.proofs.Calm.{private-below}

-- a dword that a barrier may write: of the private area, or the flag
abbrev pub Signals : (h a : ℕ) → Type 0
Signals h a = IsOwn h a ⊎ (a ≡ flag_at h)

pub flags-below : (h d g : ℕ) → h < 16 → flag_at h + 8 ≤ verdict_at d g
unfolding flag_at verdict_at
flags-below h d g l = omega arith

-- it writes none of the n bytes from a, which lie above the flags and below or above the private area
pub writes-none : (h a n : ℕ) (x : Access) → flag_at h + 8 ≤ a → (a + n ≤ private_at h)
    ⊎ (private_at h + private_size ≤ a) → Uses IsBelow (Signals h) x → writes_in a n x ≡ false
writes-none h a n Quiet f o u = refl
writes-none h a n (Read addr width v) f o u = refl
writes-none h a n (Write addr width v) f o u = by u.1 o
  where
    by : IsOwn h addr ⊎ (addr ≡ flag_at h) → (a + n ≤ private_at h) ⊎ (private_at h + private_size ≤ a)
        → (nat_lt addr (a + n) && nat_lt a (addr + width)) ≡ false
    by (inl l) (inl m) = let w = u.0 in grind (arith, nat_tests)
    by (inl l) (inr m) = let w = u.0 in grind (arith, nat_tests)
    by (inr l) m = let w = u.0 in let g = f in let k : addr + width ≤ a = omega arith in grind (arith, nat_tests)

pub reads-none : (h a : ℕ) (x : Access) → windows_base ≤ a → Uses IsBelow (Signals h) x → reads_in a 8 x ≡ false
reads-none h a Quiet o u = refl
reads-none h a (Write addr width v) o u = refl
reads-none h a (Read addr width v) o u = let w = u.0 in let l = u.1 in grind (arith, nat_tests)

module _ (p : Program) (formed : Formed p) (fit : MasksFit p.cases p.masks) (h : ℕ) (number : h < harts p) where
  abbrev exit : ℕ
  exit = exit_of p h

  few : h < 16
  few = let b = (formed-sizes formed).harts in omega arith

  pub barrier-fact : (past : List Entry) (e : Entry) → Keeping p h past e → Uses IsBelow (Signals h) e.access
      → ((c : ℕ) → c < case_count p → e.next ≢ start_of p h c) → e.next ≢ halt_of p h
      → (e.pc ≡ exit → IfSome (round_before p (phase_in exit past)) (λ d. Gathered p h (now_in exit past)))
      → (IsTrue (signals_in h e) → IfSome (case_of_phase p (suc (phase_in exit past)))
      (λ c. AreSet p h c (now_in exit past))) → Fact p h past e
  barrier-fact past e keeping access starts halt gathered sets = record {
    fresh = λ c stream f g. let r = case-of p.cases c h stream f in
        absurd (starts c (slice_get_within p.cases.cases c r.0 r.1)
        (eqb-true e.next (start_of p h c) (and_parts _ _ g).0));
    behind = λ c l g. absurd (starts c l (eqb-true e.next (start_of p h c) (and_parts _ _ g).0));
    verdict = λ d g l m f. no (not-cell d g l m) f;
    exact = λ d m u f g. let l : d < case_count p = let n = slice_get_within p.masks.cases d m f in omega
        (arith, fit.count) in
        no (not-cell d h l number) (ap (writes_in (verdict_at d h) 8) g ∙ writes-itself (verdict_at d h) u);
    halt = λ z. absurd (halt z);
    halted = λ z. absurd (halt z);
    writes = λ _. may (phase_in exit past) e.access access;
    barrier = keeping;
    collects = gathers (round_before p (phase_in exit past)) refl gathered;
    sets = sets;
  }
    where
      not-cell : (d g : ℕ) → d < case_count p → g < harts p → writes_in (verdict_at d g) 8 e.access ≡ false
      not-cell d g l m = let a = formed.program.cases.count in let b = (formed-sizes formed).harts in
          writes-none h (verdict_at d g) 8 e.access (flags-below h d g few)
          (inl (verdict-low d g h (omega arith) (omega arith))) access

      not-shared : writes_shared p e.access ≡ false
      not-shared = any-none (λ w. writes_in (window_at w.number) (w.lines * p.cases.line) e.access) p.cases.windows
          (λ w.
          let k = window-high w.number in
          let b = private-below h few in
          let c = verdict-low 0 0 h (omega arith) (omega arith) in
          let f = flags-below h 0 0 few in
          writes-none h (window_at w.number) (w.lines * p.cases.line) e.access (omega arith) (inr (omega arith)) access)

      may : (q : ℕ) (x : Access) → Uses IsBelow (Signals h) x
          → Writes (λ b. IsTrue (may_write p q h b) × (q % 2 ≡ 1 → IsFalse (is_declared p.cases b))) x
      may q Quiet u = tt
      may q (Read addr width v) u = tt
      may q (Write addr width v) u = λ i l. by i l u.1
        where
          by : (i : ℕ) → i < width → IsOwn h addr ⊎ (addr ≡ flag_at h) → IsTrue (may_write p q h (addr + i))
              × (q % 2 ≡ 1 → IsFalse (is_declared p.cases (addr + i)))
          by i l (inl m) =
              let w = u.0 in
              let b = private-below h few in (
                or_right (is_flag h (addr + i)) (is_verdict p h (addr + i)
                    || (is_private h (addr + i) || (is_window (addr + i) && may_write_window p q h (addr + i))))
                    (or_right (is_verdict p h (addr + i)) (is_private h (addr + i)
                    || (is_window (addr + i) && may_write_window p q h (addr + i)))
                    (ap (λ (t : Bool). t || (is_window (addr + i) && may_write_window p q h (addr + i)))
                    (within-true (private_at h) private_size (addr + i) (omega arith) (omega arith)))),
                (λ _. undeclared p (addr + i) (omega arith)),
              )
          by i l (inr m) =
              let w = u.0 in
              let f = flags-below h 0 0 few in
              let c = verdict-low 0 0 h (omega arith) (omega arith) in
              let b = private-below h few in (
                ap (λ (t : Bool). t || (is_verdict p h (addr + i)
                    || (is_private h (addr + i) || (is_window (addr + i) && may_write_window p q h (addr + i)))))
                    (within-true (flag_at h) 8 (addr + i) (omega arith) (omega arith)),
                (λ _. undeclared p (addr + i) (omega arith)),
              )

      gathers : (o : Option ℕ) → round_before p (phase_in exit past) ≡ o
          → (e.pc ≡ exit → IfSome o (λ d. Gathered p h (now_in exit past))) → IfSome o (λ d. Gathering p h past e)
      gathers None f g = tt
      gathers (Some d) f g = record {
        once = λ k x l z. no (reads-none h (slice_index_or (owned p.cases h) k x) e.access (owned-above p h k x l)
            access) z;
        before_writes = λ z. no not-shared z;
        before_exit = λ z. g z;
      }
