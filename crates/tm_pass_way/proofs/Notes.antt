-- What is told and saved of earlier passes stays so.
use Rattle.std.proofs.Common.{◌≡◌, ◌≢◌, ℕ, ◌+◌, ◌*◌, ◌<◌, Bool, true, false, ◌&&◌, not, ◌==◌, List, [], ◌∷◌}
use Rattle.std.proofs.Common.{Option, None, Some, refl, sym, ap, ◌∙◌, arith}
use Rattle.std.specs.Prelude.{slice_index, if◌then◌else◌}
use Rattle.tm_plan_cases.specs.declared.program.Program.{Program}
use Rattle.tm_plan_map.specs.Map.{save_at}
use Rattle.tm_plan_cases.specs.Collected.{owned}
use Rattle.tm_world.specs.Lists.{or_else}
use Rattle.tm_world.specs.Place.{case_count, passes, exit_of, inside, byte_of}
use Rattle.tm_world.specs.Run.{got}
use Rattle.tm_world.specs.Writers.{run_phase}
use Rattle.tm_runs.specs.Machine.{State, Entry, Table}
use Rattle.tm_pass_way.specs.Logs.{left_in, read_in}
use Rattle.tm_runs.specs.Phases.{phase_in, steps_in}
use Rattle.tm_pass_way.specs.Parts.{Same, Counts, Stayed, Saves, CollectsTo, PassTold, RegistersTold}

-- ---- a phase of which there is no entry yet

cons-nil : {A : Type 0} (x : A) (xs : List A) → ◌≡◌ {A = List A} (x ∷ xs) [] → ⊥
cons-nil x xs e = cc

module _ (p : Program) (h : ℕ) where
  abbrev exit : ℕ
  exit = exit_of p h

  not-here : (q : ℕ) (e : Entry) (past : List Entry) → steps_in exit q (e ∷ past) ≡ []
      → ((phase_in exit past == q) ≡ false) × (steps_in exit q past ≡ [])
  not-here q e past = by (phase_in exit past == q)
    where
      by : (b : Bool) → (if b then e ∷ steps_in exit q past else steps_in exit q past) ≡ [] → (b ≡ false)
          × (steps_in exit q past ≡ [])
      by true z = absurd (cons-nil e (steps_in exit q past) z)
      by false z = (refl, z)

  pub left-none : (c q : ℕ) (log : List Entry) → steps_in exit q log ≡ [] → left_in p h c q log ≡ None
  left-none c q [] e = refl
  left-none c q (x ∷ past) e =
      let n = not-here q x past e in
      ap (λ (o : Option Table). or_else o (if (phase_in exit past == q)
      && (inside p h c x.pc && not (inside p h c x.next)) then Some x.regs else None)) (left-none c q past n.1)
      ∙ ap (λ (b : Bool). if b && (inside p h c x.pc && not (inside p h c x.next)) then Some x.regs else None) n.0

  pub read-none : (q b : ℕ) (log : List Entry) → steps_in exit q log ≡ [] → read_in p h q b log ≡ None
  read-none q b [] e = refl
  read-none q b (x ∷ past) e =
      let n = not-here q x past e in
      ap (λ (o : Option ℕ). or_else o (if phase_in exit past == q then got x.access b else None))
      (read-none q b past n.1)
      ∙ ap (λ (t : Bool). if t then got x.access b else None) n.0

  -- ---- passes that are told

  pub told-same : {c j : ℕ} {s t : State} → c < case_count p → j < passes p → Same p h s t
      → PassTold p h c j s.log s.mem → PassTold p h c j t.log t.mem
  told-same {c = c} {j = j} {s = s} {t = t} few l n g = record {
    registers = g.registers;
    told = n.left c (run_phase p c j) few ∙ g.told;
    saved = λ i m. n.memos.area j i l (omega arith) ∙ g.saved i m;
    read = λ d i m r. n.read (run_phase p c j + 1) d i m r ∙
        (g.read d i m r ∙ ap (λ (v : ℕ). Some (byte_of v i)) (sym (n.memos.area j (30 + d) l (omega arith))));
  }

  pub told-counts : {c j k : ℕ} {s t : State} → c < case_count p → j < passes p → Counts p h k s t
      → PassTold p h c j s.log s.mem → PassTold p h c j t.log t.mem
  told-counts {c = c} {j = j} few l n g = record {
    registers = g.registers;
    told = n.left c (run_phase p c j) few ∙ g.told;
    saved = λ i m. n.area j i l (omega arith) ∙ g.saved i m;
    read = λ d i m r. n.read (run_phase p c j + 1) d i m r ∙
        (g.read d i m r ∙ ap (λ (v : ℕ). Some (byte_of v i)) (sym (n.area j (30 + d) l (omega arith))));
  }

  pub told-saves : {c j : ℕ} {s t : State} → c < case_count p → j < passes p → Saves p h s t
      → PassTold p h c j s.log s.mem → PassTold p h c j t.log t.mem
  told-saves {c = c} {j = j} few l n g = record {
    registers = g.registers;
    told = n.left c (run_phase p c j) few ∙ g.told;
    saved = λ i m. n.area j i l (omega arith) ∙ g.saved i m;
    read = λ d i m r. n.read (run_phase p c j + 1) d i m r ∙
        (g.read d i m r ∙ ap (λ (v : ℕ). Some (byte_of v i)) (sym (n.area j (30 + d) l (omega arith))));
  }

  pub told-stay : {c d j q : ℕ} {s t : State} → c < case_count p → j < passes p → run_phase p c j ≢ q
      → run_phase p c j + 1 ≢ q → Stayed p h d q s t → PassTold p h c j s.log s.mem → PassTold p h c j t.log t.mem
  told-stay {c = c} {d = d} {j = j} few l x y n g = record {
    registers = g.registers;
    told = n.others c (run_phase p c j) few x ∙ g.told;
    saved = λ i m. n.memos.area j i l (omega arith) ∙ g.saved i m;
    read = λ e i m r. n.read (run_phase p c j + 1) (slice_index (owned p.cases h) e + i) y ∙
        (g.read e i m r ∙ ap (λ (v : ℕ). Some (byte_of v i)) (sym (n.memos.area j (30 + e) l (omega arith))));
  }

  pub told-collect : {c j k q : ℕ} {s t : State} → c < case_count p → j < k → run_phase p c j + 1 ≢ q
      → CollectsTo p h k q s t → PassTold p h c j s.log s.mem → PassTold p h c j t.log t.mem
  told-collect {c = c} {j = j} few l y n g = record {
    registers = g.registers;
    told = n.left c (run_phase p c j) few ∙ g.told;
    saved = λ i m. n.area j i l (omega arith) ∙ g.saved i m;
    read = λ d i m r. n.others (run_phase p c j + 1) (slice_index (owned p.cases h) d + i) y ∙
        (g.read d i m r ∙ ap (λ (v : ℕ). Some (byte_of v i)) (sym (n.area j (30 + d) l (omega arith))));
  }

  -- ---- the pass that goes on

  -- behind the stream, saved
  pub registers-told : {c k q : ℕ} {s t u : State} → c < case_count p → run_phase p c k ≡ q → left_in p h c q s.log
      ≡ None → Stayed p h c q s t → Saves p h t u → RegistersTold p h c k u.log u.mem
  registers-told {c = c} {q = q} {u = u} few e none a b = record {
    registers = a.registers;
    told = ap (λ (r : ℕ). left_in p h c r u.log) e ∙
        (b.left c q few ∙ (a.left ∙ ap (λ (o : Option Table). or_else o (Some a.registers)) none));
    saved = λ i l. b.saved i l ∙ sym (a.are (i + 1));
  }

  -- collected
  pub pass-told : {c k q : ℕ} {s t : State} → c < case_count p → run_phase p c k + 1 ≡ q → steps_in exit q s.log ≡ []
      → RegistersTold p h c k s.log s.mem → CollectsTo p h k q s t → PassTold p h c k t.log t.mem
  pass-told {c = c} {k = k} {q = q} {s = s} {t = t} few e none g n = record {
    registers = g.registers;
    told = n.left c (run_phase p c k) few ∙ g.told;
    saved = λ i l. n.dwords i l ∙ g.saved i l;
    read = λ j i l m.
        let b = slice_index (owned p.cases h) j + i in
        ap (λ (r : ℕ). read_in p h r b t.log) e ∙ (n.read j i l m ∙ ap (λ (o : Option ℕ).
        or_else o (Some (byte_of (t.mem (save_at h k + 8 * (30 + j))) i))) (read-none q b s.log none));
  }
