-- When a round case is reported, and when its passes differ (this project's own).
use Rattle.std.specs.Prelude.{◌≡◌, ◌≢◌, ◌⊎◌, ℕ, ◌<◌, List, [], ◌∷◌, Option, Some, IsTrue}
use Rattle.tm_table.specs.declared.state.Access.TheVariants.{Write}
use Rattle.tm_plan_cases.specs.declared.cases.Cases.{Cases}
use Rattle.tm_plan_cases.specs.declared.cases.Stream.{Stream}
use Rattle.tm_plan_cases.specs.declared.program.Program.{Program}
use Rattle.tm_plan_cases.specs.Collected.{collector}
use Rattle.tm_plan_cases.specs.Streams.{stream_in}
use Rattle.tm_plan_map.specs.Map.{verdict_at}
use Rattle.tm_world.specs.Place.{harts, round_count, case_of_round, passes, halt_of}
use Rattle.tm_world.specs.Run.{Run, Step, Always, own, access_of}
use Rattle.tm_world.specs.Kinds.{first_of_hart, state_of}
use Rattle.tm_world.specs.Course.{writes_in}
use Rattle.tm_world.specs.Verdict.{Part, Register, Byte, end_value}
use Rattle.tm_world.specs.Checked.{IsCheckedRegister, IsCheckedByte}

-- P holds of some step and of what was before it.
abbrev pub Sometimes : (List Step → Step → Type 0) → List Step → Type 0
Sometimes P [] = ⊥
Sometimes P (s ∷ past) = P past s ⊎ Sometimes P past

-- All harts are at halt at the end of the run.
abbrev pub AllAtHalt : Program → Run → Type 0
AllAtHalt p r = (h : ℕ) → h < harts p → (state_of r h r.steps).pc ≡ halt_of p h

-- ---- reports

-- The step writes a byte of a verdict cell of round case e, and isn't the write of 0 there with width 8.
abbrev pub Reports : Program → ℕ → Step → Type 0
Reports p e s = (h : ℕ) × (h < harts p) × IsTrue (writes_in (verdict_at e h) 8 (access_of s))
    × (access_of s ≢ Write (verdict_at e h) 8 0)

-- Round case e is reported: some step of the run reports it. Where verdict cells are written with width 8 alone, as a
-- program that keeps the course does, it is so where a number other than 0 is written to one of its verdict cells.
abbrev pub IsReported : Program → Run → ℕ → Type 0
IsReported p r e = Sometimes (λ past s. Reports p e s) r.steps

-- No round case is reported, the opposite: each write that covers a byte of a verdict cell is the write of 0 there,
-- with width 8.
abbrev pub NotReported : Program → Run → Type 0
NotReported p r = Always (λ past s. (e h : ℕ) → e < round_count p → h < harts p
    → IsTrue (writes_in (verdict_at e h) 8 (access_of s)) → access_of s ≡ Write (verdict_at e h) 8 0) r.steps

-- ---- passes that differ

-- A register of hart h, or a byte that hart h collects, is checked in case c: it depends on no race.
abbrev pub IsChecked : Cases → ℕ → ℕ → Part → Type 0
IsChecked cases c h (Register r) = (stream : Stream) × (stream_in cases c h ≡ Some stream)
    × IsCheckedRegister cases c h r stream
IsChecked cases c h (Byte b) = (collector cases b ≡ h) × IsCheckedByte cases c b

-- the end value of a register of hart h, or of a byte that hart h collects, in pass k of round case e of a run
abbrev pub end_in : Program → Run → (e h k : ℕ) → Part → Option ℕ
end_in p r e h k part = end_value p h e k (first_of_hart r h) (own h r.steps) part

-- Some checked part of round case e has end values that differ between two passes.
pub record Differs (p : Program) (r : Run) (e : ℕ) : Type 0 where
  pub hart : ℕ
  pub part : Part
  pub first : ℕ
  pub second : ℕ
  pub one : ℕ
  pub other : ℕ
  pub a_hart : hart < harts p
  pub checked : IsChecked p.cases (case_of_round p e) hart part
  pub two_passes : (first < passes p) × (second < passes p)
  pub has_one : end_in p r e hart first part ≡ Some one
  pub has_other : end_in p r e hart second part ≡ Some other
  pub differ : one ≢ other
