-- What a log tells of steps: by phases and fronts, of the barrier, and of idle reads.
use Rattle.std.proofs.Common.{◌≡◌, ℕ, zero, suc, ◌+◌, List, [], ◌∷◌, Bool, true, false, ◌&&◌, ◌||◌, ◌==◌, refl, sym, ap}
use Rattle.std.proofs.Common.{ap₂, ◌∙◌, subst}
use Rattle.std.specs.Prelude.{if◌then◌else◌}
use Rattle.std.proofs.lemmas.Option.{IfSome_then}
use Rattle.tm_plan_cases.specs.declared.program.Program.{Program}
use Rattle.tm_plan_map.specs.Map.{flag_at}
use Rattle.tm_base.specs.Lists.{any}
use Rattle.tm_world.specs.Lists.{front_to}
use Rattle.tm_world.specs.Place.{harts, end_of, exit_of}
use Rattle.tm_world.specs.Run.{Step, access_of, phase, in_phase}
use Rattle.tm_world.specs.Writers.{case_of_phase}
use Rattle.tm_world.specs.Course.{is_write, is_fence, signals, gets, Signal, Leaves, Barrier}
use Rattle.tm_world.specs.Work.{is_idle_read, idle_lately}
use Rattle.tm_runs.specs.Machine.{Entry}
use Rattle.tm_runs.specs.Shadow.{entry_of, entries_of}
use Rattle.tm_runs.specs.Phases.{phase_in, steps_in, now_in, signals_in, is_fence_in, idles_in, idles_at, lately_at}
use Rattle.tm_runs.specs.Phases.{Signalling, Leaving, Keeping}
use Rattle.tm_runs.proofs.Paths.{any-entries, phase-entries}

-- the entries of a phase
pub phase-steps : (exit q : ℕ) (own : List Step) → entries_of (in_phase exit q own) ≡ steps_in exit q (entries_of own)
phase-steps exit q [] = refl
phase-steps exit q (s ∷ past) = by (phase exit past == q) (phase_in exit (entries_of past) == q)
    (ap (λ (n : ℕ). n == q) (phase-entries exit past)) (phase-steps exit q past)
  where
    by : (a b : Bool) → a ≡ b → entries_of (in_phase exit q past) ≡ steps_in exit q (entries_of past)
        → entries_of (if a then s ∷ in_phase exit q past else in_phase exit q past)
        ≡ (if b then entry_of s ∷ steps_in exit q (entries_of past) else steps_in exit q (entries_of past))
    by true true e f = ap (λ (l : List Entry). entry_of s ∷ l) f
    by false false e f = f
    by true false e f = cc
    by false true e f = cc

pub phase-now : (exit : ℕ) (own : List Step) → entries_of (in_phase exit (phase exit own) own)
    ≡ now_in exit (entries_of own)
phase-now exit own = phase-steps exit (phase exit own) own ∙ ap (λ (q : ℕ). steps_in exit q (entries_of own))
    (phase-entries exit own)

-- a test of the steps of this phase
pub now-any : (f : Step → Bool) (g : Entry → Bool) → ((s : Step) → f s ≡ g (entry_of s)) → (exit : ℕ) (own : List Step)
    → any f (in_phase exit (phase exit own) own) ≡ any g (now_in exit (entries_of own))
now-any f g h exit own = any-entries f g h (in_phase exit (phase exit own) own) ∙ ap (any g) (phase-now exit own)

-- what stands before the first that passes a test
pub front-entries : (f : Step → Bool) (g : Entry → Bool) → ((s : Step) → f s ≡ g (entry_of s)) → (own : List Step)
    → entries_of (front_to f own) ≡ front_to g (entries_of own)
front-entries f g h [] = refl
front-entries f g h (s ∷ past) = by (f s) (g (entry_of s)) (h s) (front-entries f g h past)
  where
    by : (a b : Bool) → a ≡ b → entries_of (front_to f past) ≡ front_to g (entries_of past)
        → entries_of (if a then [] else s ∷ front_to f past)
        ≡ (if b then [] else entry_of s ∷ front_to g (entries_of past))
    by true true e k = refl
    by false false e k = ap (λ (l : List Entry). entry_of s ∷ l) k
    by true false e k = cc
    by false true e k = cc

pub front-any : (t : Step → Bool) (u : Entry → Bool) → ((s : Step) → t s ≡ u (entry_of s))
    → (f : Step → Bool) (g : Entry → Bool) → ((s : Step) → f s ≡ g (entry_of s)) → (own : List Step)
    → any t (front_to f own) ≡ any u (front_to g (entries_of own))
front-any t u k f g h own = any-entries t u k (front_to f own) ∙ ap (any u) (front-entries f g h own)

-- ---- the barrier, and idle reads

module _ (p : Program) (h : ℕ) where
  abbrev exit : ℕ
  exit = exit_of p h

  signal-tells : (past : List Step) (s : Step) → Signalling p h (phase_in exit (entries_of past)) (entries_of past)
      (entry_of s) → Signal p h (phase exit past) past s
  signal-tells past s e =
      let same = phase-entries exit past in
      subst (λ (q : ℕ). Signal p h q past s) (sym same) (record {
        value = e.value;
        once = now-any (signals h) (signals_in h) (λ t. refl) exit past ∙ e.once;
        fence = λ _. front-any is_fence is_fence_in (λ t. refl) (λ t. is_write (access_of t))
            (λ (t : Entry). is_write t.access) (λ t. refl) past ∙ e.fence;
        ended = IfSome_then (case_of_phase p (phase_in exit (entries_of past))) e.ended
            (λ c i. now-any (λ (t : Step). t.after.pc == end_of p h c) (λ (t : Entry). t.next == end_of p h c)
            (λ t. refl) exit past ∙ i);
        more = e.more;
      })

  leaving-tells : (past : List Step) → Leaving p h (phase_in exit (entries_of past)) (entries_of past)
      → Leaves p h (phase exit past) past
  leaving-tells past e =
      let same = phase-entries exit past in
      subst (λ (q : ℕ). Leaves p h q past) (sym same) (record {
        signalled = now-any (signals h) (signals_in h) (λ t. refl) exit past ∙ e.signalled;
        met = λ g l ne. front-any (λ (t : Step). gets (flag_at g) (phase_in exit (entries_of past) + 1) (access_of t))
            (λ (t : Entry). gets (flag_at g) (phase_in exit (entries_of past) + 1) t.access) (λ t. refl) (signals h)
            (signals_in h) (λ t. refl) past ∙ e.met g l ne;
      })

  pub keeping-tells : (past : List Step) (s : Step) → Keeping p h (entries_of past) (entry_of s)
      → Barrier p h (phase exit past) past s
  keeping-tells past s e = record {
    signal = λ i. signal-tells past s (e.signal i);
    still = λ i. e.still (sym (now-any (signals h) (signals_in h) (λ t. refl) exit past) ∙ i);
    leave = λ i. leaving-tells past (e.leave i);
  }

  pub idle-tells : (past : List Step) (s : Step) → is_idle_read p h past s ≡ idles_at p h (entries_of past) (entry_of s)
  idle-tells past s = ap₂ (λ (a : Bool) (q : ℕ). a && idles_in h (harts p) (q + 1) (entry_of s))
      (now-any (signals h) (signals_in h) (λ t. refl) exit past) (phase-entries exit past)

  pub lately-tells : (k : ℕ) (own : List Step) → idle_lately p h k own ≡ lately_at p h k (entries_of own)
  lately-tells zero own = refl
  lately-tells (suc k) [] = refl
  lately-tells (suc k) (s ∷ past) = ap₂ (λ (a b : Bool). a || b) (idle-tells past s) (lately-tells k past)
