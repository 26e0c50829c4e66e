-- How far a hart of a test of cells has come, by its log (this project's own).
use Rattle.std.specs.Prelude.{◌≡◌, ◌≢◌, ℕ, suc, ◌+◌, ◌<◌, ◌≤◌, false, not, ◌==◌, List, [], ◌∷◌, Option, None, Some}
use Rattle.std.specs.Prelude.{if◌then◌else◌, ◌&&◌, unwrap_or}
use Rattle.tm_table.specs.declared.state.Access.{Access}
use Rattle.tm_table.specs.declared.state.Access.TheVariants.{Quiet, Read, Write}
use Rattle.tm_table.specs.Adds.{add_of, add_word}
use Rattle.tm_plan_cases.specs.declared.program.Program.{Program}
use Rattle.tm_plan_map.specs.Map.{flag_at, verdict_at, private_at}
use Rattle.tm_world.specs.Lists.{or_else}
use Rattle.tm_world.specs.Place.{harts, exit_of}
use Rattle.tm_runs.specs.Machine.{Entry}
use Rattle.tm_blocks_base.specs.Verdict.{first_from}
use Rattle.tm_barrier.specs.Laws.{MeetUses, Looks}
use Rattle.tm_runs.specs.Phases.{signals_in}
use Rattle.tm_runs.specs.Phases.{Keeping}
use Rattle.tm_barrier.specs.Course.{work_at}
use Rattle.tm_cells_plan.specs.declared.plan.CellPlan.{CellPlan}
use Rattle.tm_cells_plan.specs.Sums.{addend, cell_of, cell_sum}
use Rattle.tm_cells_world.specs.Kinds.{cell_at}
use Rattle.tm_cells_code.specs.Words.{the_add}

-- ---- what was loaded

-- what an access loads, if it loads the dword at a
abbrev pub load_of : ℕ → Access → Option ℕ
load_of a (Read addr width value) = if (addr == a) && (width == 8) then Some value else None
load_of a Quiet = None
load_of a (Write addr width value) = None

-- what the newest load of the dword at a found
abbrev pub loaded_in : ℕ → List Entry → Option ℕ
loaded_in a [] = None
loaded_in a (e ∷ past) = or_else (load_of a e.access) (loaded_in a past)

-- the number of the first cell that isn't its sum, and 1; 0 where all are
abbrev pub verdict_over : CellPlan → (ℕ → ℕ) → ℕ
verdict_over plan f = first_from (λ q. not (f q == cell_sum plan q)) 0 8

-- over what was loaded
abbrev pub verdict_in : CellPlan → List Entry → ℕ
verdict_in plan log = verdict_over plan (λ q. unwrap_or (loaded_in (cell_at q) log) 0)

-- ---- stages

-- how many adds were made, how often the flag was written, the exit mark passed, cells loaded, and verdicts written
pub record Stage : Type 0 where
  pub adds : ℕ
  pub signals : ℕ
  pub exits : ℕ
  pub loads : ℕ
  pub verdicts : ℕ

abbrev pub stage : (adds signals exits loads verdicts : ℕ) → Stage
stage a s x l v = record { adds = a; signals = s; exits = x; loads = l; verdicts = v }

-- an entry that makes no add, and isn't at the exit mark
pub record Plain (p : Program) (h : ℕ) (e : Entry) : Type 0 where
  pub add : add_of e.word ≡ None
  pub off : e.pc ≢ exit_of p h

-- What an entry does behind these, and to which stage it comes.
pub data Does (plan : CellPlan) (p : Program) (h : ℕ) (past : List Entry) (e : Entry) (st : Stage) : Stage
    → Type 0 where
  -- no access
  Quietly : e.access ≡ Quiet → Plain p h e → Does plan p h past e st st
  -- the barrier before its signal: its count is read and written, or another hart's flag read
  Counts : st.signals ≡ 0 → st.exits ≡ 0 → MeetUses h (harts p) (private_at h + 256) e.access → signals_in h e ≡ false
      → Plain p h e → Does plan p h past e st st
  -- the next add
  Adds : st.signals ≡ 0 → st.exits ≡ 0 → st.adds < plan.adds → e.word ≡ add_word the_add
      → (v : ℕ) → e.access ≡ Write (cell_at (cell_of plan.seed h st.adds)) 8 v
      → e.regs 28 ≡ cell_at (cell_of plan.seed h st.adds) → e.regs 6 ≡ addend plan.seed h st.adds
      → e.pc ≢ exit_of p h
      → Does plan p h past e st (stage (suc st.adds) st.signals st.exits st.loads st.verdicts)
  -- the signal, behind all adds
  Signals : st.signals ≡ 0 → st.exits ≡ 0 → st.adds ≡ plan.adds → e.access ≡ Write (flag_at h) 8 1 → Plain p h e
      → Does plan p h past e st (stage st.adds 1 st.exits st.loads st.verdicts)
  -- the barrier behind its signal
  Looking : st.signals ≡ 1 → st.exits ≡ 0 → Looks h (harts p) e.access → Plain p h e → Does plan p h past e st st
  -- the step at the exit mark
  Leaves : st.signals ≡ 1 → st.exits ≡ 0 → e.access ≡ Quiet → add_of e.word ≡ None → e.pc ≡ exit_of p h
      → Does plan p h past e st (stage st.adds st.signals 1 st.loads st.verdicts)
  -- the load of the next cell
  Loads : h ≡ 0 → st.signals ≡ 1 → st.exits ≡ 1 → st.loads < 8 → (v : ℕ) → e.access ≡ Read (cell_at st.loads) 8 v
      → Plain p h e → Does plan p h past e st (stage st.adds st.signals st.exits (suc st.loads) st.verdicts)
  -- the verdict, behind all loads
  Judges : h ≡ 0 → st.signals ≡ 1 → st.exits ≡ 1 → st.loads ≡ 8 → st.verdicts ≡ 0
      → e.access ≡ Write (verdict_at 0 0) 8 (verdict_in plan past) → Plain p h e
      → Does plan p h past e st (stage st.adds st.signals st.exits st.loads 1)

-- What a log tells: step for step one of these, each of which keeps the barrier.
pub data Told (plan : CellPlan) (p : Program) (h : ℕ) : List Entry → Stage → Type 0 where
  Start : Told plan p h [] (stage 0 0 0 0 0)
  More : {past : List Entry} {e : Entry} {st st' : Stage} → Told plan p h past st → Keeping p h past e
      → Does plan p h past e st st' → Told plan p h (e ∷ past) st'

-- a stage that a log tells, with at most so much work
pub record Sofar (plan : CellPlan) (p : Program) (h : ℕ) (st : Stage) (n : ℕ) (log : List Entry) : Type 0 where
  pub told : Told plan p h log st
  pub few : work_at p h log ≤ n

-- some stage, with no more work than a hart may make
pub record Good (plan : CellPlan) (p : Program) (h : ℕ) (most : ℕ) (log : List Entry) : Type 0 where
  pub at : Stage
  pub sofar : Sofar plan p h at most log
