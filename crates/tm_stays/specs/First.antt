-- What a hart sets before it signals, and where it comes into its streams (this project's own).
use Rattle.std.specs.Prelude.{◌≡◌, ◌≢◌, ℕ, suc, ◌+◌, ◌-◌, ◌/◌, ◌<◌, List, slice_get, slice_index, Some, IsTrue, All}
use Rattle.tm_table.specs.State.{Hart}
use Rattle.tm_plan_cases.specs.declared.cases.Case.{Case}
use Rattle.tm_plan_cases.specs.declared.program.Program.{Program}
use Rattle.tm_plan_map.specs.Map.{windows_base}
use Rattle.tm_plan_cases.specs.Collected.{owned}
use Rattle.tm_world.specs.Place.{case_count, case_of_round, first_dwords, exit_of, byte_of}
use Rattle.tm_world.specs.Run.{Step, Always, now, pc_of, phase, last_write}
use Rattle.tm_world.specs.Writers.{round_of_phase}
use Rattle.tm_world.specs.Marks.{Enter, comes_to}
use Rattle.tm_world.specs.Course.{signals, this_phase}

-- Where hart h signals in the phase before a run phase of a round case, what it wrote last in this phase at each byte
-- of each dword that it collects is the round case's first byte.
abbrev pub SetsDwords : Program → ℕ → Hart → List Step → Type 0
SetsDwords p h first = Always (λ past s. IsTrue (signals h s) → (e : ℕ) (case : Case)
    → round_of_phase p (suc (phase (exit_of p h) past)) ≡ Some e
    → slice_get p.cases.cases (case_of_round p e) ≡ Some case
    → All (λ a. (i : ℕ) → i < 8 → last_write (a + i) (this_phase p h past)
    ≡ Some (byte_of (slice_index (first_dwords p e case) ((a - windows_base) / 8)) i)) (owned p.cases h))

-- The step with which hart h comes into a stream isn't the one at its exit mark. (Such a step would still be one of
-- the phase before, of which a legal run says less.)
abbrev pub EntersBehindExit : Program → ℕ → Hart → List Step → Type 0
EntersBehindExit p h first = Always (λ past s. (c : ℕ) → c < case_count p
    → IsTrue (comes_to p h (Enter c) (now first past).pc s.after.pc) → pc_of s ≢ exit_of p h)
