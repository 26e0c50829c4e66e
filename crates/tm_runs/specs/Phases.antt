-- Phases of a hart's log, and the barrier's part of the course, told of a log (this project's own). It is that of
-- tm_world's words on steps, said of entries.
use Rattle.std.specs.Prelude.{◌≡◌, ◌≢◌, ℕ, zero, suc, ◌+◌, ◌<◌, Bool, false, true, ◌&&◌, ◌||◌, not, ◌==◌, List, []}
use Rattle.std.specs.Prelude.{◌∷◌, if◌then◌else◌, IsTrue, IfSome}
use Rattle.tm_table.specs.declared.state.Access.TheVariants.{Write}
use Rattle.tm_plan_cases.specs.declared.program.Program.{Program}
use Rattle.tm_plan_map.specs.Map.{flag_at}
use Rattle.tm_base.specs.Lists.{any, count_from}
use Rattle.tm_world.specs.Lists.{count, front_to}
use Rattle.tm_world.specs.Place.{harts, end_of, exit_of}
use Rattle.tm_world.specs.Writers.{case_of_phase}
use Rattle.tm_world.specs.Kinds.{writes_flag}
use Rattle.tm_world.specs.Course.{is_write, gets, IsStill, last_phase}
use Rattle.tm_world.specs.Work.{gets_less}
use Rattle.tm_runs.specs.Machine.{Entry}

-- ---- phases

-- the phase that the hart is in
abbrev pub phase_in : ℕ → List Entry → ℕ
phase_in exit log = count (λ (e : Entry). e.pc == exit) log

-- the entries of phase q
abbrev pub steps_in : ℕ → ℕ → List Entry → List Entry
steps_in exit q [] = []
steps_in exit q (e ∷ past) = if phase_in exit past == q then e ∷ steps_in exit q past else steps_in exit q past

-- those of the phase that the hart is in
abbrev pub now_in : ℕ → List Entry → List Entry
now_in exit log = steps_in exit (phase_in exit log) log

-- ---- tests of an entry

-- it writes hart h's flag
abbrev pub signals_in : ℕ → Entry → Bool
signals_in h e = writes_flag h e.access

-- its word is `fence rw, rw`
abbrev pub is_fence_in : Entry → Bool
is_fence_in e = e.word == 0x0330000F

-- it reads another hart's flag, and gets less than m
abbrev pub idles_in : (h n m : ℕ) → Entry → Bool
idles_in h n m e = any (λ g. not (g == h) && gets_less (flag_at g) m e.access) (count_from 0 n)

-- behind this log it is an idle read
abbrev pub idles_at : Program → ℕ → List Entry → Entry → Bool
idles_at p h past e =
    any (signals_in h) (now_in (exit_of p h) past) && idles_in h (harts p) (phase_in (exit_of p h) past + 1) e

-- one of the k newest is an idle read
abbrev pub lately_at : Program → ℕ → ℕ → List Entry → Bool
lately_at p h zero log = false
lately_at p h (suc k) [] = false
lately_at p h (suc k) (e ∷ past) = idles_at p h past e || lately_at p h k past

-- ---- the barrier

-- An entry that signals in phase q.
pub record Signalling (p : Program) (h q : ℕ) (past : List Entry) (e : Entry) : Type 0 where
  pub value : e.access ≡ Write (flag_at h) 8 (q + 1)
  pub once : any (signals_in h) (now_in (exit_of p h) past) ≡ false
  pub fence : any is_fence_in (front_to (λ t. is_write t.access) past) ≡ true
  pub ended : IfSome (case_of_phase p q) (λ c. IsTrue
      (any (λ (t : Entry). t.next == end_of p h c) (now_in (exit_of p h) past)))
  pub more : q ≢ last_phase p

-- The hart leaves phase q behind this log: it has signalled in it, and has since got at least q + 1 from each other
-- flag.
pub record Leaving (p : Program) (h q : ℕ) (past : List Entry) : Type 0 where
  pub signalled : any (signals_in h) (now_in (exit_of p h) past) ≡ true
  pub met : (g : ℕ) → g < harts p → g ≢ h
      → any (λ (t : Entry). gets (flag_at g) (q + 1) t.access) (front_to (signals_in h) past) ≡ true

-- An entry that keeps the barrier, told of the log before it.
pub record Keeping (p : Program) (h : ℕ) (past : List Entry) (e : Entry) : Type 0 where
  pub signal : IsTrue (signals_in h e) → Signalling p h (phase_in (exit_of p h) past) past e
  pub still : any (signals_in h) (now_in (exit_of p h) past) ≡ true → IsStill p h e.access
  pub leave : e.pc ≡ exit_of p h → Leaving p h (phase_in (exit_of p h) past) past
