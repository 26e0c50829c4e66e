-- Which traces can be written and read (this project's own).
use Rattle.std.specs.Prelude.{◌≡◌, ℕ, ◌%◌, ◌^◌, ◌<◌, ◌≤◌, List, length, All}
use Rattle.tm_base.specs.declared.limits.TheConstants.{HART_ROOM, MOST_EVENTS}
use Rattle.tm_table.specs.declared.state.Access.{Access}
use Rattle.tm_table.specs.declared.state.Access.TheVariants.{Quiet, Read, Write}
use Rattle.tm_table.specs.Row.{IsWidth}
use Rattle.tm_plan_cases.specs.declared.event.Event.{Event}

-- a width that accesses have, an address that is a multiple of it, and a value of so many bytes
pub record IsPlaced (addr width value : ℕ) : Type 0 where
  pub wide : IsWidth width
  pub aligned : addr % width ≡ 0
  pub fits : value < 256 ^ width

-- an access that has its place, where it isn't quiet
abbrev pub HasPlace : Access → Type 0
HasPlace Quiet = Unit {0}
HasPlace (Read addr width value) = IsPlaced addr width value
HasPlace (Write addr width value) = IsPlaced addr width value

-- an event of one of so many harts, whose access has its place
pub record IsTraced (n : ℕ) (e : Event) : Type 0 where
  pub hart : e.hart < n
  pub access : HasPlace e.access

-- what a trace may be: of 1 to HART_ROOM harts, with at most MOST_EVENTS events, each of one of the harts
pub record IsTrace (n : ℕ) (events : List Event) : Type 0 where
  pub harts : (1 ≤ n) × (n ≤ HART_ROOM)
  pub few : length events ≤ MOST_EVENTS
  pub each : All (IsTraced n) events
