-- What a hart does on its own steps, by the stages that its log tells.
use Rattle.std.proofs.Common.{◌≡◌, ◌≢◌, ℕ, zero, suc, ◌+◌, ◌-◌, ◌<◌, ◌≤◌, List, [], ◌∷◌, ◌++◌, ◌⊎◌, inl, inr, map}
use Rattle.std.proofs.Common.{Bool, true, false, true≢false, ◌==◌, not, Option, None, Some, refl, sym, ap, ◌∙◌}
use Rattle.std.proofs.Common.{subst, arith, eq-eqb, eqb-true}
use Rattle.std.specs.Prelude.{if◌then◌else◌, IsTrue, IsFalse, nat_lt, unwrap_or}
use Rattle.std.proofs.lemmas.Bool.{lt-ltb, cases_lt}
use Rattle.std.proofs.lemmas.List.{map-append}
use Rattle.tm_table.specs.declared.state.Access.{Access}
use Rattle.tm_table.specs.declared.state.Access.TheVariants.{Quiet, Read, Write}
use Rattle.tm_table.specs.State.{Hart}
use Rattle.tm_base.specs.Lists.{count_from}
use Rattle.tm_plan_cases.specs.declared.program.Program.{Program}
use Rattle.tm_plan_map.specs.Map.{flag_at, verdict_at, private_at}
use Rattle.tm_world.specs.Lists.{count, or_else, IsFront}
use Rattle.tm_world.specs.Place.{harts, exit_of, halt_of}
use Rattle.tm_world.specs.Run.{Step, Always, now, first_state, access_of}
use Rattle.tm_world.specs.Kinds.{IsOpening, writes_flag}
use Rattle.tm_world.specs.Course.{signals, writes_in, reads_in, last_phase}
use Rattle.tm_world.specs.Writers.{case_of_phase}
use Rattle.tm_runs.specs.Machine.{Entry}
use Rattle.tm_runs.specs.World.{Sizes}
use Rattle.tm_runs.specs.Shadow.{entry_of, entries_of}
use Rattle.tm_runs.proofs.Paths.{count-entries, phase-entries}
use Rattle.tm_blocks_base.specs.Verdict.{first_from}
use Rattle.tm_barrier.specs.Laws.{MeetUses, Looks}
use Rattle.tm_runs.specs.Phases.{signals_in}
use Rattle.tm_barrier.proofs.Logs.{logs_tell}
use Rattle.tm_cells_plan.specs.declared.plan.CellPlan.{CellPlan}
use Rattle.tm_cells_plan.specs.Sums.{cell_sum, cell_of}
use Rattle.tm_cells_world.specs.Rows.{Addition}
use Rattle.tm_cells_world.specs.Kinds.{CellHalfPath, cell_at}
use Rattle.tm_cells_world.specs.Shadow.{NoStreams}
use Rattle.tm_cells_code.specs.Told.{Stage, stage, Does, Quietly, Counts, Adds, Signals, Looking, Leaves, Loads}
use Rattle.tm_cells_code.specs.Told.{Judges, Told, Start, More, Good, loaded_in, load_of, verdict_in}
use Rattle.tm_cells_code.specs.Placed.{CellPlaced}
use Rattle.tm_cells_code.specs.Harts.{HartCells, SignalsOnce, JudgesCells, IsVerdict, Agree, Differ, HasEnded, loaded}
use Rattle.tm_cells_code.specs.Harts.{add_by, adds_of}
use Rattle.tm_cells_code.proofs.Tells.{Signalled, Now, Not, does-signals, told-signals, told-exits, count-none}
use Rattle.tm_cells_code.proofs.Wrote.{does-wrote, wrote-flags, writes-apart, writes-there}
use Rattle.tm_cells_code.proofs.Addresses.{cell-place, flag-place, verdict-place, private-place}
use Rattle.tm_cells_code.proofs.CellLoads.{told-reads, told-loaded}
use Rattle.tm_cells_code.proofs.Own.{told-own, next-own, ended-own, made-own, told-few}
use Rattle.tm_cells_code.proofs.Way.{final, most_work}

-- ---- the first that passes a test

pub data First (f : ℕ → Bool) (i n : ℕ) : ℕ → Type 0 where
  Nobody : ((j : ℕ) → i ≤ j → j < i + n → f j ≡ false) → First f i n 0
  Somebody : (q : ℕ) → i ≤ q → q < i + n → f q ≡ true → ((j : ℕ) → i ≤ j → j < q → f j ≡ false) → First f i n (suc q)

pub first-is : (f : ℕ → Bool) (i n : ℕ) → First f i n (first_from f i n)
first-is f i zero = Nobody (λ j a b. absurd (omega arith))
first-is f i (suc n) = by (f i) refl (first-is f (suc i) n)
  where
    here : (j : ℕ) → f i ≡ false → i ≤ j → (suc i ≤ j → f j ≡ false) → f j ≡ false
    here j e a g = elim (cases_lt i j) [
      | inl l ↦ g (omega arith)
      | inr l ↦ let z : i ≡ j = omega arith in subst (λ (x : ℕ). f x ≡ false) z e
    ]

    more : {m : ℕ} → f i ≡ false → First f (suc i) n m → First f i (suc n) m
    more e (Nobody g) = Nobody (λ j a b. here j e a (λ l. g j l (omega arith)))
    more e (Somebody q a b t g) = Somebody q (omega arith) (omega arith) t (λ j c d. here j e c (λ l. g j l d))

    by : (b : Bool) → f i ≡ b → First f (suc i) n (first_from f (suc i) n)
        → First f i (suc n) (if b then suc i else first_from f (suc i) n)
    by true e r = Somebody i (omega arith) (omega arith) e (λ j a b. absurd (omega arith))
    by false e r = more e r

-- ---- the verdict

loaded-own : (a : ℕ) (own : List Step) → loaded a own ≡ loaded_in a (entries_of own)
loaded-own a [] = refl
loaded-own a (s ∷ past) = ap (or_else (load_of a (access_of s))) (loaded-own a past)

not-false : (b : Bool) → not b ≡ false → b ≡ true
not-false true e = refl
not-false false e = cc

not-true : (b : Bool) → not b ≡ true → b ≡ false
not-true true e = cc
not-true false e = refl

exact : (plan : CellPlan) (past : List Step) → ((q : ℕ) → q < 8 → (v : ℕ) × (loaded_in (cell_at q) (entries_of past)
    ≡ Some v)) → IsVerdict plan past (verdict_in plan (entries_of past))
exact plan past known = by (first-is test 0 8)
  where
    value : ℕ → ℕ
    value q = unwrap_or (loaded_in (cell_at q) (entries_of past)) 0

    test : ℕ → Bool
    test q = not (unwrap_or (loaded_in (cell_at q) (entries_of past)) 0 == cell_sum plan q)

    is : (q : ℕ) → q < 8 → loaded (cell_at q) past ≡ Some (unwrap_or (loaded_in (cell_at q) (entries_of past)) 0)
    is q l = let k = known q l in loaded-own (cell_at q) past ∙ (k.1
        ∙ ap (λ (x : ℕ). Some x) (sym (ap (λ (o : Option ℕ). unwrap_or o 0) k.1)))

    agrees : (q : ℕ) → q < 8 → test q ≡ false → loaded (cell_at q) past ≡ Some (cell_sum plan q)
    agrees q l e = is q l ∙ ap (λ (x : ℕ). Some x) (eqb-true _ _ (not-false _ e))

    by : {m : ℕ} → First test 0 8 m → IsVerdict plan past m
    by (Nobody g) = Agree (λ q l. agrees q l (g q (omega arith) (omega (arith, l))))
    by (Somebody q a b t g) = Differ q _ (omega (arith, b)) (is q (omega (arith, b)))
        (λ z. true≢false (sym (eq-eqb _ _ z) ∙ not-true _ t))
        (λ i l. agrees i (omega (arith, l, b)) (g i (omega arith) l))

-- ---- counts

module _ (plan : CellPlan) (p : Program) (h : ℕ) (few : harts p ≤ 16) (low : h < 16) where
  abbrev verdicts : Entry → Bool
  verdicts e = writes_in (verdict_at 0 0) 8 e.access

  -- an entry's verdict
  data Says-so (past : List Entry) (e : Entry) (st st' : Stage) : Type 0 where
    Yes : writes_in (verdict_at 0 0) 8 e.access ≡ true → h ≡ 0 → st.loads ≡ 8 → st.verdicts ≡ 0 → st'.verdicts ≡ 1
        → e.access ≡ Write (verdict_at 0 0) 8 (verdict_in plan past) → Says-so past e st st'
    No : writes_in (verdict_at 0 0) 8 e.access ≡ false → st'.verdicts ≡ st.verdicts → Says-so past e st st'

  meets-silent : (x : Access) → MeetUses h (harts p) (private_at h + 256) x → writes_in (verdict_at 0 0) 8 x ≡ false
  meets-silent Quiet m = refl
  meets-silent (Read a n v) m = refl
  meets-silent (Write a n v) m =
      ap (λ (k : ℕ). writes_in (verdict_at 0 0) 8 (Write a k v)) m.0 ∙ writes-apart (verdict_at 0 0) a v (place m.1)
    where
      place : (a ≡ private_at h + 256) ⊎ (a ≡ flag_at h) → (verdict_at 0 0 + 8 ≤ a) ⊎ (a + 8 ≤ verdict_at 0 0)
      place (inl z) = inl (let b = verdict-place in let c = private-place h in omega (arith, z))
      place (inr z) = inr (let b = verdict-place in let c = flag-place h in omega (arith, z))

  looks-silent' : (x : Access) → Looks h (harts p) x → writes_in (verdict_at 0 0) 8 x ≡ false
  looks-silent' Quiet m = refl
  looks-silent' (Read a n v) m = refl
  looks-silent' (Write a n v) m = absurd m.1

  does-says : {past : List Entry} {e : Entry} {st st' : Stage} → Does plan p h past e st st' → Says-so past e st st'
  does-says (Quietly a b) = No (ap (writes_in (verdict_at 0 0) 8) a) refl
  does-says {e = e} (Counts a b c d f) = No (meets-silent e.access c) refl
  does-says {st = st} (Adds a b c d v f g i j) = No (ap (writes_in (verdict_at 0 0) 8) f
      ∙ writes-apart (verdict_at 0 0) (cell_at (cell_of plan.seed h st.adds)) v
      (inl (let x = verdict-place in let y = cell-place (cell_of plan.seed h st.adds) in omega arith))) refl
  does-says (Signals a b c d f) = No (ap (writes_in (verdict_at 0 0) 8) d
      ∙ writes-apart (verdict_at 0 0) (flag_at h) 1 (inr (let x = verdict-place in let y = flag-place h in omega arith)))
      refl
  does-says {e = e} (Looking a b c d) = No (looks-silent' e.access c) refl
  does-says (Leaves a b c d f) = No (ap (writes_in (verdict_at 0 0) 8) c) refl
  does-says (Loads a b c d v f g) = No (ap (writes_in (verdict_at 0 0) 8) f) refl
  does-says {past = past} (Judges a b c d f g i) = Yes (ap (writes_in (verdict_at 0 0) 8) g
      ∙ writes-there (verdict_at 0 0) (verdict_in plan past)) a d f refl g

  told-verdicts : {log : List Entry} {st : Stage} → Told plan p h log st
      → count (λ (e : Entry). writes_in (verdict_at 0 0) 8 e.access) log ≡ st.verdicts
  told-verdicts Start = refl
  told-verdicts (More {past = past} {e = e} {st = st} {st' = st'} t k d) = by (does-says d) (told-verdicts t)
    where
      by : Says-so past e st st' → count (λ (e : Entry). writes_in (verdict_at 0 0) 8 e.access) past ≡ st.verdicts
          → (if writes_in (verdict_at 0 0) 8 e.access
          then suc (count (λ (e : Entry). writes_in (verdict_at 0 0) 8 e.access) past)
          else count (λ (e : Entry). writes_in (verdict_at 0 0) 8 e.access) past) ≡ st'.verdicts
      by (Yes a b c d f g) q =
          ap (λ (t : Bool). if t then suc (count (λ (e : Entry). writes_in (verdict_at 0 0) 8 e.access) past)
          else count (λ (e : Entry). writes_in (verdict_at 0 0) 8 e.access) past) a ∙ omega (arith, q, d, f)
      by (No a b) q =
          ap (λ (t : Bool). if t then suc (count (λ (e : Entry). writes_in (verdict_at 0 0) 8 e.access) past)
          else count (λ (e : Entry). writes_in (verdict_at 0 0) 8 e.access) past) a ∙ (q ∙ sym b)

  -- ---- each step

  signal-step : (past : List Step) (s : Step) {st st' : Stage} → Told plan p h (entries_of past) st
      → Signalled plan p h low (entries_of past) (entry_of s) st st' → IsTrue (signals h s) → SignalsOnce p h past s
  signal-step past s t (Now a b c d f g) i = record {
    value = f;
    once = count-entries (λ (u : Step). writes_flag h (access_of u)) (signals_in h) (λ u. refl) past
        ∙ (told-signals plan p h low t ∙ b);
    before = phase-entries (exit_of p h) past ∙ (told-exits plan p h low t ∙ c);
  }
  signal-step past s t (Not a b) i = absurd (true≢false (sym i ∙ a))

  pub signal-own : (own : List Step) {st : Stage} → Told plan p h (entries_of own) st
      → Always (λ past s. IsTrue (signals h s) → SignalsOnce p h past s) own
  signal-own [] t = tt
  signal-own (s ∷ past) (More t k d) = (signal-step past s t (does-signals plan p h low d), signal-own past t)

  pub others-own : (own : List Step) {st : Stage} → Told plan p h (entries_of own) st
      → Always (λ past s. (g : ℕ) → g < harts p → g ≢ h → IsFalse (writes_flag g (access_of s))) own
  others-own [] t = tt
  others-own (s ∷ past) (More t k d) = (
    (λ g l n. wrote-flags plan h g (entries_of past) (entry_of s) low (omega (arith, l, few)) n (does-wrote plan p h d)),
    others-own past t,
  )

  judge-step : (past : List Step) (s : Step) {st st' : Stage} → Told plan p h (entries_of past) st
      → Says-so (entries_of past) (entry_of s) st st' → IsTrue (writes_in (verdict_at 0 0) 8 (access_of s))
      → JudgesCells plan h past s
  judge-step past s t (No a b) i = absurd (true≢false (sym i ∙ a))
  judge-step past s {st = st} t (Yes a b c d f g) i = record {
    hart = b;
    number = verdict_in plan (entries_of past);
    value = g;
    exact = exact plan past (λ q l. told-loaded plan p h few low t q (omega (arith, c, l)));
    once = count-none (λ (u : Step). writes_in (verdict_at 0 0) 8 (access_of u)) past
        (count-entries (λ (u : Step). writes_in (verdict_at 0 0) 8 (access_of u))
        (λ (e : Entry). writes_in (verdict_at 0 0) 8 e.access) (λ u. refl) past ∙ (told-verdicts t ∙ d));
  }

  pub judge-own : (own : List Step) {st : Stage} → Told plan p h (entries_of own) st
      → Always (λ past s. IsTrue (writes_in (verdict_at 0 0) 8 (access_of s)) → JudgesCells plan h past s) own
  judge-own [] t = tt
  judge-own (s ∷ past) (More t k d) = (judge-step past s t (does-says d), judge-own past t)

-- ---- adds

count-split : (a k m : ℕ) → count_from a (k + m) ≡ count_from a k ++ count_from (a + k) m
count-split a zero m = ap (count_from a) (let f : 0 + m ≡ m = omega arith in f)
    ∙ ap (λ (x : ℕ). count_from x m) (let e : a ≡ a + 0 = omega arith in e)
count-split a (suc k) m =
    ap (count_from a) (let f : suc k + m ≡ suc (k + m) = omega arith in f) ∙ ap (λ (l : List ℕ). a ∷ l) (count-split (suc a) k m ∙ ap (λ (x : ℕ). count_from (suc a) k ++ count_from x m)
    (let e : suc a + k ≡ a + suc k = omega arith in e))

adds-front : (plan : CellPlan) (h k : ℕ) → k ≤ plan.adds → IsFront (map (add_by plan h) (count_from 0 k)) (adds_of plan h)
unfolding adds_of
adds-front plan h k l =
    let e : k + (plan.adds - k) ≡ plan.adds = omega arith in (
      map (add_by plan h) (count_from (0 + k) (plan.adds - k)),
      ap (λ (n : ℕ). map (add_by plan h) (count_from 0 n)) (sym e)
          ∙ (ap (map (add_by plan h)) (count-split 0 k (plan.adds - k))
          ∙ map-append (add_by plan h) (count_from 0 k) (count_from (0 + k) (plan.adds - k))),
    )

pub all-adds : (plan : CellPlan) (h : ℕ) → map (add_by plan h) (count_from 0 plan.adds) ≡ adds_of plan h
unfolding adds_of
all-adds plan h = refl

-- ---- the hart

module _ (plan : CellPlan) (p : Program) (h : ℕ) (sizes : Sizes p) (none : NoStreams p h) (mine : h < harts p)
    (first-phase : case_of_phase p 0 ≡ None) (more : 0 ≢ last_phase p) (placed : CellPlaced plan p h) (x : List ℕ)
    (o : IsOpening h x) (own : List Step) (path : CellHalfPath p h (first_state x) own) where
  abbrev first : Hart
  first = first_state x

  low : h < 16
  low = omega (arith, mine, sizes.harts)

  abbrev good : Good plan p h (most_work plan) (entries_of own)
  good = told-own plan p h sizes none mine first-phase more placed x o own path

  final-adds : (final plan h).adds ≡ plan.adds
  final-adds = by (h == 0)
    where
      by : (b : Bool) → (if b then stage plan.adds 1 1 8 1 else stage plan.adds 1 1 0 0).adds ≡ plan.adds
      by true = refl
      by false = refl

  final-signals : ((final plan h).signals ≡ 1) × ((final plan h).exits ≡ 1)
  final-signals = by (h == 0)
    where
      by : (b : Bool) → ((if b then stage plan.adds 1 1 8 1 else stage plan.adds 1 1 0 0).signals ≡ 1)
          × ((if b then stage plan.adds 1 1 8 1 else stage plan.adds 1 1 0 0).exits ≡ 1)
      by true = (refl, refl)
      by false = (refl, refl)

  final-zero : h ≡ 0 → final plan h ≡ stage plan.adds 1 1 8 1
  final-zero e = ap (λ (b : Bool). if b then stage plan.adds 1 1 8 1 else stage plan.adds 1 1 0 0) (eq-eqb h 0 e)

  at-halt : (now first own).pc ≡ halt_of p h → HasEnded plan p h first own
  at-halt e =
      let t = (ended-own plan p h sizes none mine first-phase more placed x o own path e).told in
      record {
        adds = made-own plan p h first own (final plan h) path t
            ∙ (ap (λ (n : ℕ). map (add_by plan h) (count_from 0 n)) final-adds ∙ all-adds plan h);
        signalled = count-entries (λ (u : Step). writes_flag h (access_of u)) (signals_in h) (λ u. refl) own
            ∙ (told-signals plan p h low t ∙ final-signals.0);
        left = phase-entries (exit_of p h) own ∙ (told-exits plan p h low t ∙ final-signals.1);
        loads = λ z q l. count-entries (λ (u : Step). reads_in (cell_at q) 8 (access_of u))
            (λ (e : Entry). reads_in (cell_at q) 8 e.access) (λ u. refl) own
            ∙ (told-reads plan p h sizes.harts low t q ∙ (ap (λ (st : Stage). if nat_lt q st.loads then 1 else 0) (final-zero z)
            ∙ ap (λ (b : Bool). if b then 1 else 0) (lt-ltb q 8 l)));
        judged = λ z. count-entries (λ (u : Step). writes_in (verdict_at 0 0) 8 (access_of u))
            (λ (e : Entry). writes_in (verdict_at 0 0) 8 e.access) (λ u. refl) own
            ∙ (told-verdicts plan p h sizes.harts low t ∙ ap (λ (st : Stage). st.verdicts) (final-zero z));
      }

  pub hart-cells : HartCells plan p h first own
  hart-cells = record {
    adds = subst (λ (l : List Addition). IsFront l (adds_of plan h)) (sym (made-own plan p h first own good.at path good.sofar.told))
        (adds-front plan h good.at.adds (told-few plan p h first good.sofar.told));
    signal = signal-own plan p h sizes.harts low own good.sofar.told;
    others = others-own plan p h sizes.harts low own good.sofar.told;
    verdict = judge-own plan p h sizes.harts low own good.sofar.told;
    work = omega (arith, (logs_tell p h first own).1, good.sofar.few);
    next = next-own plan p h sizes none mine first-phase more placed x o own path;
    ended = at-halt;
  }
