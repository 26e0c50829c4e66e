-- Turns in round order (this project's own).
use Rattle.std.specs.Prelude.{◌≡◌, ℕ, suc, ◌<◌, ◌≤◌, length}
use Rattle.tm_plan_cases.specs.declared.event.Event.{Event}
use Rattle.tm_world.specs.Place.{harts}
use Rattle.tm_guest.specs.declared.turn.RoundEnd.{RoundEnd}
use Rattle.tm_guest.specs.declared.turn.RoundEnd.TheVariants.{Done, Full}
use Rattle.tm_guest.specs.Guested.{Guested, IsHalted, with_event}
use Rattle.tm_guest.specs.Turns.{IsNextEvent}

-- From one guest on, where hart 0's turn is next, turns in round order lead to another, where hart h's turn is next.
-- Each hart that isn't at halt steps, which makes its next event; those at halt are left out; and behind the last
-- hart's turn the next round begins.
pub data Goes (from : Guested) : ℕ → Guested → Type 0 where
  Begins : Goes from 0 from
  Steps : {h : ℕ} {g : Guested} (e : Event) → Goes from h g → h < harts from.program → (¬ IsHalted g h)
      → IsNextEvent g h e → Goes from (suc h) (with_event g e)
  Skips : {h : ℕ} {g : Guested} → Goes from h g → h < harts from.program → IsHalted g h → Goes from (suc h) g
  Wraps : {g : Guested} → Goes from (harts from.program) g → Goes from 0 g

-- all harts are at their halt marks
abbrev pub AllHalted : Guested → Type 0
AllHalted g = (h : ℕ) → h < harts g.program → IsHalted g h

-- How a run in round order ends: all harts are at halt; or the journal is full, and some hart isn't.
abbrev pub EndsAs : RoundEnd → Guested → Type 0
EndsAs Done g = AllHalted g
EndsAs Full g = (length g.journal ≡ g.limit) × ((h : ℕ) × (h < harts g.program) × (¬ IsHalted g h))

-- the same program, script and limit
pub record IsSame (g t : Guested) : Type 0 where
  pub program : t.program ≡ g.program
  pub faults : t.faults ≡ g.faults
  pub limit : t.limit ≡ g.limit

-- more events, but no more than the limit
abbrev pub Grows : Guested → Guested → Type 0
Grows g t = (length g.journal < length t.journal) × (length t.journal ≤ g.limit)
