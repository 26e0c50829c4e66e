-- What a comparison finds is the verdict (this project's own).
use Rattle.std.specs.Prelude.{ℕ, ◌<◌, ◌≤◌, List}
use Rattle.tm_plan_cases.specs.declared.masks.CaseMask.{CaseMask}
use Rattle.tm_plan_cases.specs.declared.program.Program.{Program}
use Rattle.tm_world.specs.Place.{passes}
use Rattle.tm_runs.specs.Machine.{Entry, Table}
use Rattle.tm_pass_way.specs.Logs.{IsVerdictIn}
use Rattle.tm_pass_way.specs.Parts.{PassTold, IsFound}

-- Where the save areas of all passes of a case hold the end states that the log tells, what is found in them is the
-- verdict that it tells.
abbrev pub FoundIsVerdict : Program → Type 0
FoundIsVerdict p = (h c : ℕ) (m : CaseMask) (past : List Entry) (mem : Table) → 1 ≤ passes p
    → ((j : ℕ) → j < passes p → PassTold p h c j past mem) → (v : ℕ) → IsFound p m h mem v
    → IsVerdictIn p m h c past v
