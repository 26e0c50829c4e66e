-- Laws of legal runs, with any number of harts (this project's own).
use Rattle.std.specs.Prelude.{◌≡◌, ℕ, ◌<◌, slice_get, Some, IsTrue}
use Rattle.tm_plan_cases.specs.declared.program.Program.{Program}
use Rattle.tm_plan_cases.specs.declared.masks.CaseMask.{CaseMask}
use Rattle.tm_plan_cases.specs.Collected.{is_declared, collector}
use Rattle.tm_plan_cases.specs.Shaped.{IsProgram, IsTyped}
use Rattle.tm_world.specs.Place.{harts, case_of_round, passes}
use Rattle.tm_world.specs.Run.{Run}
use Rattle.tm_world.specs.Kinds.{Legal}
use Rattle.tm_world.specs.Course.{OnHalf, HartCourse}
use Rattle.tm_world.specs.Whole.{Course}
use Rattle.tm_world.specs.Verdict.{Part, Register, Byte, end_value, is_checked, WritesExactly, HasEnds}
use Rattle.tm_world.specs.Checked.{AreChecked}
use Rattle.tm_world.specs.Reported.{NotReported}
use Rattle.tm_legal.specs.Tame.{Formed}
use Rattle.tm_legal.specs.Laws.{OnLegal}

-- What hart h's passes are compared by: a register of its own, or a shared byte that it collects.
abbrev pub IsCompared : Program → ℕ → Part → Type 0
IsCompared p h (Register r) = r < 32
IsCompared p h (Byte b) = IsTrue (is_declared p.cases b) × (collector p.cases b ≡ h)

-- A program that the calls of the workspace take, whose masks are exactly the checked sets, and that keeps the course.
pub record Tracked (p : Program) : Type 0 where
  pub program : IsProgram p
  pub typed : IsTyped p
  pub masks : AreChecked p.cases p.masks
  pub course : Course p

-- On a legal run, in any two passes of a round case in which a checked part has an end value, it is the same,
-- whatever the racing reads return and whichever branches they steer.
abbrev pub PassesAgree : Program → Type 0
PassesAgree p = Tracked p → (h e : ℕ) (m : CaseMask) → h < harts p
    → slice_get p.masks.cases (case_of_round p e) ≡ Some m
    → OnLegal p h (λ first own. (part : Part) → IsCompared p h part → IsTrue (is_checked m h part)
    → (k k' u u' : ℕ) → k < passes p → k' < passes p
    → end_value p h e k first own part ≡ Some u → end_value p h e k' first own part ≡ Some u' → u ≡ u')

-- On half runs a hart that keeps the course has all end values of a round case where it writes its verdict.
abbrev pub EndsThere : Program → Type 0
EndsThere p = Formed p → (h : ℕ) → h < harts p → HartCourse p h → OnHalf p h (HasEnds p h)

-- Where each hart writes true verdicts on half runs, no round case is reported on a legal run.
abbrev pub Silent : Program → Type 0
Silent p = Tracked p → ((h : ℕ) → h < harts p → OnHalf p h (WritesExactly p h)) → (r : Run) → Legal p r
    → NotReported p r
