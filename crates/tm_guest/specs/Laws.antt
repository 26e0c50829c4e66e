-- Laws of guests (this project's own).
use Rattle.std.specs.Prelude.{◌≡◌, ℕ, ◌≤◌, []}
use Rattle.tm_plan_cases.specs.declared.program.Program.{Program}
use Rattle.tm_plan_cases.specs.declared.event.Event.{Event}
use Rattle.tm_plan_cases.specs.Collected.{budget_of}
use Rattle.tm_plan_script.specs.Accepted.{AreAccepted}
use Rattle.tm_world.specs.Sound.{Sound}
use Rattle.tm_pace.specs.Laws.{NoIdleRead}
use Rattle.tm_guest.specs.Guested.{Guested, steps}
use Rattle.tm_guest.specs.Budget.{HasBudget}
use Rattle.tm_guest.specs.Turns.{IsNextEvent}

-- At a guest a hart has at most one next event, whatever the script: what it reads is what memory holds.
abbrev pub OneNextEvent : Program → Type 0
OneNextEvent p = (g : Guested) (h : ℕ) (d e : Event) → g.program ≡ p → IsNextEvent g h d → IsNextEvent g h e → d ≡ e

-- A guest of a sound program under an accepted script, of whose steps none is an idle read, has its budget where its
-- limit is at least that; before its first step none is; and the script without lines is accepted.
pub record SoundHasBudget (p : Program) : Type 0 where
  pub guest : Sound p → (g : Guested) → g.program ≡ p → AreAccepted p.cases g.faults
      → NoIdleRead g.program (steps g) → budget_of p.cases ≤ g.limit → HasBudget g
  pub fresh : (g : Guested) → g.journal ≡ [] → NoIdleRead g.program (steps g)
  pub none : AreAccepted p.cases []
