-- Each plain cell run is legal; and on legal ones what hart 0 loads is the sum of all that is added.
use Rattle.std.proofs.Common.{◌≡◌, ℕ, ◌+◌, ◌-◌, ◌%◌, ◌^◌, ◌<◌, ◌≤◌, List, [], ◌∷◌, Bool}
use Rattle.std.proofs.Common.{true≢false, None, Some, inl, inr, refl, sym, ap, ◌∙◌, subst, arith, map}
use Rattle.std.specs.Prelude.{IfSome, if◌then◌else◌, IsTrue}
use Rattle.std.proofs.lemmas.Bool.{cases_eq}
use Rattle.tm_table.specs.declared.state.Access.TheVariants.{Read}
use Rattle.tm_base.specs.Lists.{count_from}
use Rattle.tm_plan_cases.specs.declared.program.Program.{Program}
use Rattle.tm_world.specs.Place.{exit_of, byte_of}
use Rattle.tm_world.specs.Run.{Step, Always, own, hart_of, access_of, first_state, Reads, HasShape}
use Rattle.tm_world.specs.Kinds.{phase_of, flag_writes, writes_flag}
use Rattle.tm_world.specs.Course.{reads_in}
use Rattle.tm_world.proofs.Prefix.{earlier}
use Rattle.tm_runs.specs.Machine.{Entry}
use Rattle.tm_runs.specs.Shadow.{entry_of}
use Rattle.tm_runs.proofs.Bytes.{same_dword}
use Rattle.tm_plan_map.proofs.Within.{within-true}
use Rattle.tm_runs.proofs.Paths.{phase-entries, count-entries}
use Rattle.tm_runs.specs.Phases.{signals_in}
use Rattle.tm_cells_plan.specs.declared.plan.CellPlan.{CellPlan}
use Rattle.tm_cells_plan.specs.Sums.{IsPlan, cell_sum, hart_sum}
use Rattle.tm_cells_world.specs.Rows.{total}
use Rattle.tm_cells_world.specs.Kinds.{CellHalf, CellLegal, cell_at, made, before_of}
use Rattle.tm_cells_world.specs.Kinds.{sum_before, cell_owed}
use Rattle.tm_cells_world.proofs.Prefix.{half-earlier, legal-earlier}
use Rattle.tm_cells_code.specs.View.{cells}
use Rattle.tm_cells_code.specs.Told.{Stage, Does, Quietly, Counts, Adds, Signals, Looking, Leaves, Loads, Judges, Told}
use Rattle.tm_cells_code.specs.Told.{Start, More}
use Rattle.tm_cells_code.specs.Harts.{add_by}
use Rattle.tm_cells_code.proofs.Tells.{told-exits, told-signals}
use Rattle.tm_cells_code.proofs.Own.{made-own}
use Rattle.tm_cells_code.proofs.Keeps.{all-adds}
use Rattle.tm_cells_code.proofs.CellLoads as reads
use Rattle.tm_cells_code.proofs.CellLoads.{does-reads, cell-reads}
use Rattle.tm_cells_meet.specs.Laws.{PlainCellsAreLegal, LegalCellsSum}
use Rattle.tm_cells_meet.proofs.Sums.{all-split, sum-same, hart-total}
use Rattle.tm_cells_meet.proofs.States.{at, Newest, newest}
use Rattle.tm_cells_meet.proofs.Half.{plain-half}
use Rattle.tm_cells_meet.proofs.Meeting.{plain-met, read-reading}
use Rattle.tm_cells_meet.proofs.Adding.{plain-sums}

pub plain-legal : (plan : CellPlan) → PlainCellsAreLegal plan
plain-legal plan is r plain = record {
  half = plain-half plan is r.opening r.steps plain;
  met = plain-met plan is r.opening r.steps plain;
  sums = plain-sums plan is r.opening r.steps plain;
}

-- a hart that has signalled has made all its adds
does-all : (plan : CellPlan) (p : Program) (h : ℕ) {past : List Entry} {e : Entry} {st st' : Stage}
    → Does plan p h past e st st' → (1 ≤ st.signals → st.adds ≡ plan.adds) → 1 ≤ st'.signals → st'.adds ≡ plan.adds
does-all plan p h (Quietly a b) f l = f l
does-all plan p h (Counts a b c d g) f l = f l
does-all plan p h (Adds a b c d v g i j k) f l = absurd (omega (arith, a, l))
does-all plan p h (Signals a b c d g) f l = c
does-all plan p h (Looking a b c d) f l = f l
does-all plan p h (Leaves a b c d g) f l = f l
does-all plan p h (Loads a b c d v g i) f l = f l
does-all plan p h (Judges a b c d g i j) f l = f l

pub told-all : (plan : CellPlan) (p : Program) (h : ℕ) {log : List Entry} {st : Stage} → Told plan p h log st
    → 1 ≤ st.signals → st.adds ≡ plan.adds
told-all plan p h Start l = absurd (omega (arith, l))
told-all plan p h (More t k d) l = does-all plan p h d (told-all plan p h t) l

module _ (plan : CellPlan) (is : IsPlan plan) (o : ℕ → List ℕ) where
  abbrev p : Program
  p = cells plan

  -- where each hart has signalled, all is added
  all-there : (past : List Step) → CellHalf (cells plan) (earlier o past)
      → ((g : ℕ) → g < plan.harts → 1 ≤ flag_writes g (own g past)) → (q : ℕ) → sum_before o past q ≡ cell_sum plan q
  unfolding cell_sum
  all-there past half signalled q =
      ap (λ (n : ℕ). n % 2 ^ 64) (all-split (cell_at q) plan.harts o past half.only
      ∙ sum-same (λ h. total (cell_at q) (made (first_state (o h)) (own h past))) (λ h. hart_sum plan h q) plan.harts one)
    where
      one : (h : ℕ) → h < plan.harts → total (cell_at q) (made (first_state (o h)) (own h past)) ≡ hart_sum plan h q
      one h l =
          let a = at plan is o h l past half in
          let harts = is.harts in
          let low : h < 16 = omega arith in
          let wrote = count-entries (λ (u : Step). writes_flag h (access_of u)) (signals_in h) (λ u. refl) (own h past)
          ∙ told-signals plan (cells plan) h low a.told in
          let once : 1 ≤ a.stage.signals = (let s = signalled h l in omega (arith, s, wrote)) in
          let full = told-all plan (cells plan) h a.told once in
          ap (total (cell_at q)) (made-own plan (cells plan) h (first_state (o h)) (own h past) a.stage (half.each h l)
          a.told ∙ (ap (λ (n : ℕ). map (add_by plan h) (count_from 0 n)) full ∙ all-adds plan h))
          ∙ hart-total plan h q

  -- hart 0 behind its exit mark
  abbrev IsSum : List Step → Step → Type 0
  IsSum past s = hart_of s ≡ 0 → (q : ℕ) → q < 8 → IsTrue (reads_in (cell_at q) 8 (access_of s))
      → access_of s ≡ Read (cell_at q) 8 (cell_sum plan q)

  sum-lt : (q : ℕ) → cell_sum plan q < 2 ^ 64
  unfolding cell_sum
  sum-lt q = omega arith

  one-load : (s : Step) (past : List Step) → CellLegal (cells plan) (earlier o (s ∷ past)) → IsSum past s
  one-load s past legal z q l touches =
      let n = newest plan is o past s legal.half in
      let harts = is.harts in
      let low : hart_of s < 16 = omega (arith, z) in
      by n (does-reads plan (cells plan) (hart_of s) harts.1 low n.does)
    where
      half : CellHalf (cells plan) (earlier o past)
      half = half-earlier (cells plan) o (s ∷ []) past legal.half

      by : (n : Newest plan is o (hart_of s) past s) → reads.Reads (cells plan) (hart_of s) (entry_of s) n.st n.st'
          → access_of s ≡ Read (cell_at q) 8 (cell_sum plan q)
      by n (reads.Elsewhere a b c) = absurd (true≢false (sym touches ∙ a q))
      by n (reads.Next v h0 a b c e f) = elim (cases_eq q n.st.loads) [
        | inr d ↦ absurd (true≢false (sym touches ∙ (ap (reads_in (cell_at q) 8) e ∙ cell-reads q n.st.loads v d)))
        | inl d ↦
            let access : access_of s ≡ Read (cell_at q) 8 v = e ∙ ap (λ (r : ℕ). Read (cell_at r) 8 v) (sym d) in
            access ∙ ap (λ (x : ℕ). Read (cell_at q) 8 x) (is-sum n v a b access)
      ]
        where
          is-sum : (n : Newest plan is o (hart_of s) past s) (v : ℕ) → n.st.signals ≡ 1 → n.st.exits ≡ 1
              → access_of s ≡ Read (cell_at q) 8 v → v ≡ cell_sum plan q
          is-sum n v a b access =
              let harts = is.harts in
              let h = hart_of s in
              let low : h < 16 = omega (arith, z) in
              let ph : phase_of (cells plan) past h ≡ 1 =
              phase-entries (exit_of (cells plan) h) (own h past) ∙ (told-exits plan (cells plan) h low n.before ∙ b) in
              let mine : 1 ≤ flag_writes h (own h past) =
              (let e = count-entries (λ (u : Step). writes_flag h (access_of u)) (signals_in h) (λ u. refl) (own h past)
              in let t = told-signals plan (cells plan) h low n.before in omega (arith, e, t, a)) in
              let signalled : (g : ℕ) → g < plan.harts → 1 ≤ flag_writes g (own g past) =
              λ g k. elim (cases_eq g h) [
                | inl y ↦ subst (λ (x : ℕ). 1 ≤ flag_writes x (own x past)) (sym y) mine
                | inr y ↦ let m = legal.met.0 g k y in omega (arith, m, ph)
              ] in
              let sum = all-there past half signalled q in
              let owed : Reads (cell_owed q (sum_before o past q)) (Read (cell_at q) 8 v) =
              subst (Reads (cell_owed q (sum_before o past q)))
              (read-reading (cells plan) h (before_of o past s) s (cell_at q) 8 v n.half.follows access)
              (legal.sums.0 q l) in
              let shape : HasShape (Read (cell_at q) 8 v) = subst HasShape access n.half.follows.shape in
              same_dword v (cell_sum plan q) shape.1 (sum-lt q) (λ i m.
              let inside = within-true (cell_at q) 8 (cell_at q + i) (omega arith) (omega arith) in
              let j : cell_at q + i - cell_at q ≡ i = omega arith in
              (subst (λ (t : Bool). IfSome (if t then Some (byte_of (sum_before o past q) (cell_at q + i - cell_at q))
              else None) (λ b. byte_of v i ≡ b)) inside (owed i m))
              ∙ (ap (byte_of (sum_before o past q)) j ∙ ap (λ (x : ℕ). byte_of x i) sum))

  pub all-loads : (steps : List Step) → CellLegal (cells plan) (earlier o steps) → Always (λ past s. hart_of s ≡ 0
      → (q : ℕ) → q < 8 → IsTrue (reads_in (cell_at q) 8 (access_of s))
      → access_of s ≡ Read (cell_at q) 8 (cell_sum plan q)) steps
  all-loads [] legal = tt
  all-loads (s ∷ past) legal =
      (one-load s past legal, all-loads past (legal-earlier (cells plan) o (s ∷ []) past legal))

pub legal-sums : (plan : CellPlan) → LegalCellsSum plan
legal-sums plan is r legal = all-loads plan is r.opening r.steps legal
