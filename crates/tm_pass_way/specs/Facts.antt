-- What each entry of a hart's log keeps, and what a log tells so far (this project's own). Each field is a part of
-- the course, or of the verdicts, said of entries.
use Rattle.std.specs.Prelude.{◌≡◌, ◌≢◌, ℕ, suc, ◌+◌, ◌%◌, ◌/◌, ◌-◌, ◌<◌, ◌≤◌, true, false, List, [], ◌∷◌}
use Rattle.std.specs.Prelude.{slice_get, slice_index, Option, None, Some, IsTrue, IsFalse, IfSome, All}
use Rattle.tm_table.specs.declared.state.Access.TheVariants.{Read, Write}
use Rattle.tm_plan_cases.specs.declared.cases.Case.{Case}
use Rattle.tm_plan_cases.specs.declared.cases.Stream.{Stream}
use Rattle.tm_plan_cases.specs.declared.masks.CaseMask.{CaseMask}
use Rattle.tm_plan_cases.specs.declared.program.Program.{Program}
use Rattle.tm_plan_map.specs.Map.{verdict_at, windows_base}
use Rattle.tm_plan_cases.specs.Collected.{is_declared, owned}
use Rattle.tm_base.specs.Lists.{any}
use Rattle.tm_world.specs.Lists.{or_else, IsFront}
use Rattle.tm_world.specs.Place.{harts, case_count, passes, exit_of, halt_of, byte_of}
use Rattle.tm_world.specs.Run.{Writes, written}
use Rattle.tm_world.specs.Writers.{may_write, case_of_phase}
use Rattle.tm_plan_cases.specs.Streams.{stream_in}
use Rattle.tm_world.specs.Kinds.{stream_at}
use Rattle.tm_world.specs.Marks.{Enter, comes_to, arrivals, whole_way}
use Rattle.tm_world.specs.Course.{writes_in, reads_in, writes_shared, round_before}
use Rattle.tm_world.specs.Writers.{run_phase}
use Rattle.tm_runs.specs.Machine.{Entry}
use Rattle.tm_runs.specs.Course.{trail, Story}
use Rattle.tm_pass_way.specs.Logs.{IsVerdictIn, reports, work_in}
use Rattle.tm_runs.specs.Phases.{phase_in, steps_in, now_in, signals_in, Keeping}

-- ---- collecting

-- the hart has read each dword that it collects among these entries
abbrev pub Gathered : Program → ℕ → List Entry → Type 0
Gathered p h es = All (λ a. IsTrue (any (λ (t : Entry). reads_in a 8 t.access) es)) (owned p.cases h)

-- an entry of a phase that follows a run phase
pub record Gathering (p : Program) (h : ℕ) (past : List Entry) (e : Entry) : Type 0 where
  pub once : All (λ a. IsTrue (reads_in a 8 e.access)
      → ((v : ℕ) × (e.access ≡ Read a 8 v))
      × IsFalse (any (λ (t : Entry). reads_in a 8 t.access) (now_in (exit_of p h) past))) (owned p.cases h)
  pub before_writes : IsTrue (writes_shared p e.access) → Gathered p h (now_in (exit_of p h) past)
  pub before_exit : e.pc ≡ exit_of p h → Gathered p h (now_in (exit_of p h) past)

-- ---- first bytes

-- the byte of the last write of b
abbrev pub last_in : ℕ → List Entry → Option ℕ
last_in b [] = None
last_in b (e ∷ past) = or_else (written e.access b) (last_in b past)

-- each dword that the hart collects was set to the case's, last of all in this phase
abbrev pub AreSet : Program → (h c : ℕ) → List Entry → Type 0
AreSet p h c es = (case : Case) → slice_get p.cases.cases c ≡ Some case
    → All (λ a. (i : ℕ) → i < 8 → last_in (a + i) es
    ≡ Some (byte_of (slice_index case.first ((a - windows_base) / 8)) i)) (owned p.cases h)

-- ---- verdicts

-- an entry that writes the hart's verdict on case c: once, with width 8, behind the last pass and all that was
-- collected in the passes
pub record Reporting (p : Program) (h c : ℕ) (past : List Entry) (e : Entry) : Type 0 where
  pub value : (v : ℕ) × (e.access ≡ Write (verdict_at c h) 8 v)
  pub once : any (reports c h) past ≡ false
  pub ended : (k : ℕ) → k < passes p → run_phase p c k < phase_in (exit_of p h) past
  pub collected : (k : ℕ) → k < passes p → Gathered p h (steps_in (exit_of p h) (run_phase p c k + 1) past)

-- ---- all of it

pub record Fact (p : Program) (h : ℕ) (past : List Entry) (e : Entry) : Type 0 where
  pub fresh : (c : ℕ) (stream : Stream) → stream_in p.cases c h ≡ Some stream
      → IsTrue (comes_to p h (Enter c) e.pc e.next) → (r : ℕ) → 1 ≤ r → r < 32 → e.regs r ≡ slice_index stream.regs r
  pub behind : (c : ℕ) → c < case_count p → IsTrue (comes_to p h (Enter c) e.pc e.next) → e.pc ≢ exit_of p h
  pub verdict : (c g : ℕ) → c < case_count p → g < harts p → IsTrue (writes_in (verdict_at c g) 8 e.access)
      → (g ≡ h) × Reporting p h c past e
  pub exact : (c : ℕ) (m : CaseMask) (v : ℕ) → slice_get p.masks.cases c ≡ Some m
      → e.access ≡ Write (verdict_at c h) 8 v → IsVerdictIn p m h c past v
  pub halt : e.next ≡ halt_of p h → (c : ℕ) → c < case_count p → any (reports c h) (e ∷ past) ≡ true
  pub halted : e.next ≡ halt_of p h → IfSome (round_before p (phase_in (exit_of p h) (e
      ∷ past))) (λ c. Gathered p h (now_in (exit_of p h) (e ∷ past)))
  pub writes : stream_at p h e.pc ≡ None → Writes (λ b. IsTrue (may_write p (phase_in (exit_of p h) past) h b)
      × (phase_in (exit_of p h) past % 2 ≡ 1 → IsFalse (is_declared p.cases b))) e.access
  pub barrier : Keeping p h past e
  pub collects : IfSome (round_before p (phase_in (exit_of p h) past)) (λ c. Gathering p h past e)
  pub sets : IsTrue (signals_in h e)
      → IfSome (case_of_phase p (suc (phase_in (exit_of p h) past))) (λ c. AreSet p h c (now_in (exit_of p h) past))

-- What a log tells so far: the marks are a front of the way, each entry keeps its facts, and no phase has more work
-- than its limit.
pub record Told (p : Program) (h : ℕ) (limit : ℕ → ℕ) (log : List Entry) : Type 0 where
  pub order : IsFront (trail (arrivals p h) log) (whole_way p)
  pub story : Story (Fact p h) log
  pub pace : (q : ℕ) → work_in p h q log ≤ limit q
