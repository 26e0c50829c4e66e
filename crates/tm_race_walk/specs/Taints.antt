-- Where a walk over a hart's slots stands (this project's own).
use Rattle.std.specs.Prelude.{◌≡◌, ◌⊎◌, ◌↔◌, ◌<◌, ℕ, slice_get, Some, IsTrue}
use Rattle.tm_plan_cases.specs.declared.cases.Cases.{Cases}
use Rattle.tm_plan_cases.specs.declared.cases.Case.{Case}
use Rattle.tm_plan_cases.specs.Shaped.{AreShaped}
use Rattle.tm_world.specs.Slots.{Slot, slots_in}
use Rattle.tm_plane.specs.Plane.{Bit, in_plane}
use Rattle.tm_race_walk.specs.declared.walking.Taint.{Taint}
use Rattle.tm_race_walk.specs.Forward.{Stands, HeldAfter, Raised, Turns}

-- Resource r is held: it is below 64 and bit r of the registers is set, or it is the address of a byte that is in
-- the plane.
abbrev pub Holds : Taint → ℕ → Type 0
Holds t r = ((r < 64) × Bit t.regs r) ⊎ IsTrue (in_plane t.bytes r)

-- It stands at slot i of hart h: what it holds are exactly the resources that are race-dependent after slot i - 1,
-- `steered` is the greatest target of a steered slot below i, and `covered` that of any branch or JAL below i, or 0.
pub record StandsAt (case : Case) (h i : ℕ) (t : Taint) : Type 0 where
  pub stands : (cases : Cases) (c : ℕ) → AreShaped cases → slice_get cases.cases c ≡ Some case
      → Stands (slots_in cases c h) i (Holds t) t.steered t.covered

-- from before slot n to behind it
pub record Moved (slot : Slot) (n : ℕ) (old new : Taint) : Type 0 where
  pub held : (r : ℕ) → Holds new r ↔ HeldAfter slot n (Holds old) old.steered old.covered r
  pub steered : Raised (Turns slot n (Holds old) old.steered) slot.target old.steered new.steered
  pub covered : Raised (Unit {0}) slot.target old.covered new.covered
