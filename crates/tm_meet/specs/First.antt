-- What each hart sets before it signals, so that streams begin with their first bytes (this project's own).
use Rattle.std.specs.Prelude.{◌≡◌, ℕ, suc, List, slice_get, Some, IsTrue}
use Rattle.tm_table.specs.State.{Hart}
use Rattle.tm_plan_cases.specs.declared.program.Program.{Program}
use Rattle.tm_plan_cases.specs.declared.cases.Case.{Case}
use Rattle.tm_plan_cases.specs.Collected.{is_declared, collector}
use Rattle.tm_world.specs.Place.{case_of_round, first_dwords, exit_of}
use Rattle.tm_world.specs.Run.{Step, Always, phase, last_write}
use Rattle.tm_world.specs.Writers.{round_of_phase}
use Rattle.tm_world.specs.Course.{OnHalf, signals, this_phase}
use Rattle.tm_world.specs.Whole.{first_byte}
use Rattle.tm_stays.specs.First.{EntersBehindExit}

-- Where hart h signals in the phase before a run phase of a round case, what it wrote last in this phase at each
-- shared byte that it collects is the round case's first byte.
abbrev pub SetsBeforeSignal : Program → ℕ → Hart → List Step → Type 0
SetsBeforeSignal p h first = Always (λ past s. IsTrue (signals h s) → (e b : ℕ) (case : Case)
    → round_of_phase p (suc (phase (exit_of p h) past)) ≡ Some e
    → slice_get p.cases.cases (case_of_round p e) ≡ Some case
    → IsTrue (is_declared p.cases b) → collector p.cases b ≡ h
    → last_write b (this_phase p h past) ≡ Some (first_byte (first_dwords p e case) b))

-- So on half runs.
pub record SetsFirst (p : Program) (h : ℕ) : Type 0 where
  pub sets : OnHalf p h (SetsBeforeSignal p h)
  pub behind : OnHalf p h (EntersBehindExit p h)
