-- That the words and marks of built programs fit into their types (this project's own).
use Rattle.std.specs.Prelude.{◌≡◌, ℕ, ◌^◌, ◌<◌, All, slice_get, slice_index, Some}
use Rattle.tm_plan_cases.specs.declared.cases.Case.{Case}
use Rattle.tm_plan_cases.specs.declared.cases.Cases.{Cases}
use Rattle.tm_plan_cases.specs.declared.cases.Stream.{Stream}
use Rattle.tm_plan_cases.specs.declared.masks.Masks.{Masks}
use Rattle.tm_plan_cases.specs.declared.program.Program.{Program}
use Rattle.tm_plan_cases.specs.Shaped.{AreShaped}
use Rattle.tm_pass_place.specs.Built.{built}

-- the words of each stream have 32 bits, as their type gives
abbrev pub HaveWords : Cases → Type 0
HaveWords cases = (c h : ℕ) (case : Case) (s : Stream) → slice_get cases.cases c ≡ Some case
    → slice_get case.streams h ≡ Some s
    → (n : ℕ) → slice_index s.words n < 2 ^ 32

-- The words of a program's text have 32 bits, and its marks 64.
pub record IsInRange (p : Program) : Type 0 where
  pub text : (k : ℕ) → slice_index p.text k < 2 ^ 32
  pub starts : All (λ a. a < 2 ^ 64) p.marks.starts
  pub ends : All (λ a. a < 2 ^ 64) p.marks.ends
  pub exits : All (λ a. a < 2 ^ 64) p.marks.exits
  pub halts : All (λ a. a < 2 ^ 64) p.marks.halts

-- It is so for the built program of shaped cases.
abbrev pub BuiltIsInRange : Cases → Masks → Type 0
BuiltIsInRange cases masks = AreShaped cases → HaveWords cases → IsInRange (built cases masks)
