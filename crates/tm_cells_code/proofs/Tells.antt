-- What a log that tells a stage has of signals and phases.
use Rattle.std.proofs.Common.{◌≡◌, ◌≢◌, ℕ, suc, ◌<◌, List, [], ◌∷◌, Bool, true, false, true≢false}
use Rattle.std.proofs.Common.{◌||◌, ◌==◌, refl, sym, ap, ap₂, ◌∙◌, subst, arith, eq-eqb, ne_eqb}
use Rattle.std.specs.Prelude.{if◌then◌else◌}
use Rattle.tm_table.specs.declared.state.Access.TheVariants.{Quiet, Write}
use Rattle.tm_plan_cases.specs.declared.program.Program.{Program}
use Rattle.tm_plan_map.specs.Map.{flag_at}
use Rattle.tm_base.specs.Lists.{any}
use Rattle.tm_world.specs.Lists.{count}
use Rattle.tm_world.specs.Place.{harts, exit_of}
use Rattle.tm_world.specs.Kinds.{writes_flag}
use Rattle.tm_world.specs.Course.{IsStill}
use Rattle.tm_runs.specs.Machine.{Entry}
use Rattle.tm_runs.specs.Course.{Story}
use Rattle.tm_runs.specs.Phases.{signals_in}
use Rattle.tm_runs.specs.Phases.{Keeping, phase_in, steps_in, now_in}
use Rattle.tm_barrier.proofs.Told.{looks-silent}
use Rattle.tm_cells_plan.specs.declared.plan.CellPlan.{CellPlan}
use Rattle.tm_cells_code.specs.Told.{Stage, Does, Quietly, Counts, Adds, Signals, Looking, Leaves, Loads}
use Rattle.tm_cells_code.specs.Told.{Judges, Told, Start, More, verdict_in}
use Rattle.tm_cells_code.proofs.Addresses.{cell-no_flag, verdict-no_flag, own-flag}

-- ---- counts and tests

pub count-none : {A : Type 0} (f : A → Bool) (xs : List A) → count f xs ≡ 0 → any f xs ≡ false
count-none f [] e = refl
count-none f (x ∷ xs) e = by (f x) e (count-none f xs)
  where
    by : (b : Bool) → (if b then suc (count f xs) else count f xs) ≡ 0 → (count f xs ≡ 0 → any f xs ≡ false)
        → (b || any f xs) ≡ false
    by true q r = absurd (omega arith)
    by false q r = r q

or-none : (c d : Bool) → (c || d) ≡ false → (c ≡ false) × (d ≡ false)
or-none true d e = absurd (true≢false e)
or-none false d e = (refl, e)

pub steps-any : (f : Entry → Bool) (exit q : ℕ) (log : List Entry) → any f log ≡ false → any f (steps_in exit q log)
    ≡ false
steps-any f exit q [] e = refl
steps-any f exit q (x ∷ past) e =
    let parts = or-none (f x) (any f past) e in
    by (phase_in exit past == q) parts.0 (steps-any f exit q past parts.1)
  where
    by : (b : Bool) → f x ≡ false → any f (steps_in exit q past) ≡ false
        → any f (if b then x ∷ steps_in exit q past else steps_in exit q past) ≡ false
    by true r s = ap₂ (λ (c d : Bool). c || d) r s
    by false r s = s

one-more : {b : Bool} {m n : ℕ} → b ≡ false → m ≡ n → (if b then suc m else m) ≡ n
one-more p q = cc

-- an entry without an access keeps the barrier
pub quiet-keeping : (p : Program) (h : ℕ) (past : List Entry) (e : Entry) → e.access ≡ Quiet → e.pc ≢ exit_of p h
    → Keeping p h past e
quiet-keeping p h past e q off = record {
  signal = λ s. absurd (true≢false (sym s ∙ ap (writes_flag h) q));
  still = λ _. subst (IsStill p h) (sym q) tt;
  leave = λ x. absurd (off x);
}

module _ (plan : CellPlan) (p : Program) (h : ℕ) (low : h < 16) where
  abbrev exit : ℕ
  exit = exit_of p h

  -- each entry keeps the barrier
  pub told-keeping : {log : List Entry} {st : Stage} → Told plan p h log st → Story (Keeping p h) log
  told-keeping Start = tt
  told-keeping (More t k d) = (k, told-keeping t)

  -- ---- phases

  off-exit : (past : List Entry) (e : Entry) (n : ℕ) → e.pc ≢ exit_of p h → phase_in exit past ≡ n
      → phase_in exit (e ∷ past) ≡ n
  off-exit past e n off q =
      ap (λ (b : Bool). if b then suc (phase_in exit past) else phase_in exit past) (ne_eqb e.pc (exit_of p h) off) ∙ q

  does-exits : {past : List Entry} {e : Entry} {st st' : Stage} → Does plan p h past e st st'
      → phase_in exit past ≡ st.exits → phase_in exit (e ∷ past) ≡ st'.exits
  does-exits {past = past} {e = e} {st = st} (Quietly a b) q = off-exit past e st.exits b.off q
  does-exits {past = past} {e = e} {st = st} (Counts a b c d f) q = off-exit past e st.exits f.off q
  does-exits {past = past} {e = e} {st = st} (Adds a b c d v f g i j) q = off-exit past e st.exits j q
  does-exits {past = past} {e = e} {st = st} (Signals a b c d f) q = off-exit past e st.exits f.off q
  does-exits {past = past} {e = e} {st = st} (Looking a b c d) q = off-exit past e st.exits d.off q
  does-exits {past = past} {e = e} {st = st} (Leaves a b c d f) q =
      ap (λ (t : Bool). if t then suc (phase_in exit past) else phase_in exit past) (eq-eqb e.pc (exit_of p h) f) ∙
      omega (arith, q, b)
  does-exits {past = past} {e = e} {st = st} (Loads a b c d v f g) q = off-exit past e st.exits g.off q
  does-exits {past = past} {e = e} {st = st} (Judges a b c d f g i) q = off-exit past e st.exits i.off q

  pub told-exits : {log : List Entry} {st : Stage} → Told plan p h log st → phase_in exit log ≡ st.exits
  told-exits Start = refl
  told-exits (More t k d) = does-exits d (told-exits t)

  -- ---- signals

  quiet-silent : (e : Entry) → e.access ≡ Quiet → signals_in h e ≡ false
  quiet-silent e q = ap (writes_flag h) q

  -- an entry signals, for the first time and in phase 0, or doesn't
  pub data Signalled (past : List Entry) (e : Entry) (st st' : Stage) : Type 0 where
    Now : signals_in h e ≡ true → st.signals ≡ 0 → st.exits ≡ 0 → st.adds ≡ plan.adds → e.access ≡ Write (flag_at h) 8 1
        → st'.signals ≡ 1 → Signalled past e st st'
    Not : signals_in h e ≡ false → st'.signals ≡ st.signals → Signalled past e st st'

  pub does-signals : {past : List Entry} {e : Entry} {st st' : Stage} → Does plan p h past e st st'
      → Signalled past e st st'
  does-signals {e = e} (Quietly a b) = Not (quiet-silent e a) refl
  does-signals (Counts a b c d f) = Not d refl
  does-signals (Adds a b c d v f g i j) = Not (ap (writes_flag h) f ∙ cell-no_flag h _ v low) refl
  does-signals (Signals a b c d f) = Now (ap (writes_flag h) d ∙ own-flag h 1) a b c d refl
  does-signals {e = e} (Looking a b c d) = Not (looks-silent h (harts p) h e.access c) refl
  does-signals {e = e} (Leaves a b c d f) = Not (quiet-silent e c) refl
  does-signals (Loads a b c d v f g) = Not (ap (writes_flag h) f) refl
  does-signals {past = past} (Judges a b c d f g i) = Not (ap (writes_flag h) g
      ∙ verdict-no_flag h (verdict_in plan past) low) refl

  pub told-signals : {log : List Entry} {st : Stage} → Told plan p h log st → count (signals_in h) log ≡ st.signals
  told-signals Start = refl
  told-signals (More {past = past} {e = e} {st = st} {st' = st'} t k d) = by (does-signals d) (told-signals t)
    where
      by : Signalled past e st st' → count (signals_in h) past ≡ st.signals
          → (if signals_in h e then suc (count (signals_in h) past) else count (signals_in h) past) ≡ st'.signals
      by (Now a b c d f g) q =
          ap (λ (t : Bool). if t then suc (count (signals_in h) past) else count (signals_in h) past) a
          ∙ omega (arith, q, b, g)
      by (Not a b) q =
          ap (λ (t : Bool). if t then suc (count (signals_in h) past) else count (signals_in h) past) a ∙ (q ∙ sym b)

  pub told-silent : {log : List Entry} {st : Stage} → Told plan p h log st → st.signals ≡ 0
      → any (signals_in h) log ≡ false
  told-silent {log = log} t e = count-none (signals_in h) log (told-signals t ∙ e)

  -- before the signal nothing of the phase is one
  pub silent-now : {log : List Entry} {st : Stage} → Told plan p h log st → st.signals ≡ 0
      → any (signals_in h) (now_in exit log) ≡ false
  silent-now {log = log} t e = steps-any (signals_in h) exit (phase_in exit log) log (told-silent t e)

  -- nor behind the exit mark
  late : {log : List Entry} {st : Stage} → Told plan p h log st → any (signals_in h) (steps_in exit 1 log) ≡ false
  late Start = refl
  late (More {past = past} {e = e} {st = st} {st' = st'} t k d) =
      by (does-signals d) (told-exits t) (late t)
    where
      either : (b : Bool) → (b ≡ true → signals_in h e ≡ false) → any (signals_in h) (steps_in exit 1 past) ≡ false
          → any (signals_in h) (if b then e ∷ steps_in exit 1 past else steps_in exit 1 past) ≡ false
      either true f q = ap₂ (λ (x y : Bool). x || y) (f refl) q
      either false f q = q

      by : Signalled past e st st' → phase_in exit past ≡ st.exits → any (signals_in h) (steps_in exit 1 past) ≡ false
          → any (signals_in h) (if phase_in exit past == 1 then e ∷ steps_in exit 1 past else steps_in exit 1 past)
          ≡ false
      by (Not a b) x q = either (phase_in exit past == 1) (λ _. a) q
      by (Now a b c d f g) x q =
          ap (λ (t : Bool). any (signals_in h) (if t then e ∷ steps_in exit 1 past else steps_in exit 1 past))
          (ne_eqb (phase_in exit past) 1 (λ z. omega (arith, z, x, c))) ∙ q

  pub late-now : {log : List Entry} {st : Stage} → Told plan p h log st → st.exits ≡ 1
      → any (signals_in h) (now_in exit log) ≡ false
  late-now {log = log} t e = ap (λ (q : ℕ). any (signals_in h) (steps_in exit q log)) (told-exits t ∙ e) ∙ late t

  -- ---- entries that keep the barrier

  pub silent-keeping : (past : List Entry) (e : Entry) → signals_in h e ≡ false
      → any (signals_in h) (now_in (exit_of p h) past) ≡ false → e.pc ≢ exit_of p h → Keeping p h past e
  silent-keeping past e q none off = record {
    signal = λ s. absurd (true≢false (sym s ∙ q));
    still = λ s. absurd (true≢false (sym s ∙ none));
    leave = λ x. absurd (off x);
  }
