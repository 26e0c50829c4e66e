-- Steps, runs, and what a list of steps tells (this project's own).
use Rattle.std.specs.Prelude.{◌≡◌, ℕ, ◌+◌, ◌-◌, ◌^◌, ◌<◌, ◌⊎◌, ◌==◌, List, [], ◌∷◌, Option, Some, None, filter}
use Rattle.std.specs.Prelude.{IfSome, if◌then◌else◌}
use Rattle.tm_table.specs.declared.state.Access.{Access}
use Rattle.tm_table.specs.declared.state.Access.TheVariants.{Quiet, Read, Write}
use Rattle.tm_table.specs.State.{Hart}
use Rattle.tm_plan_cases.specs.declared.event.Event.{Event}
use Rattle.tm_plan_map.specs.Map.{text_base, within}
use Rattle.tm_world.specs.Lists.{count, or_else}
use Rattle.tm_world.specs.Place.{byte_of}

-- A step: its event, and the hart's registers and program counter after it.
pub record Step : Type 0 where
  pub event : Event
  pub after : Hart

-- whose step it is
abbrev pub hart_of : Step → ℕ
hart_of s = s.event.hart

-- where the instruction stands
abbrev pub pc_of : Step → ℕ
pc_of s = s.event.pc

-- what it does in memory
abbrev pub access_of : Step → Access
access_of s = s.event.access

-- A run: the registers with which each hart opens, and the steps, the newest first, so that what stands behind a step
-- in the list is what was before it.
pub record Run : Type 0 where
  pub opening : ℕ → List ℕ
  pub steps : List Step

-- hart h's own steps
abbrev pub own : ℕ → List Step → List Step
own h steps = filter (λ s. hart_of s == h) steps

-- P holds of each step and of what was before it.
abbrev pub Always : (List Step → Step → Type 0) → List Step → Type 0
Always P [] = Unit {0}
Always P (s ∷ past) = P past s × Always P past

-- what the earliest step gives that gives something
abbrev pub earliest : {A : Type 0} → (List Step → Step → Option A) → List Step → Option A
earliest f [] = None
earliest f (s ∷ past) = or_else (earliest f past) (f past s)

-- ---- one hart

-- before its first step a hart has its opening registers, and stands at the text's first word
abbrev pub first_state : List ℕ → Hart
first_state x = record { pc = text_base; x = x }

-- the state of a hart after its own steps
abbrev pub now : Hart → List Step → Hart
now first [] = first
now first (s ∷ past) = s.after

-- The phase that a hart is in after its own steps: how many of them were at its exit mark.
abbrev pub phase : ℕ → List Step → ℕ
phase exit own = count (λ s. pc_of s == exit) own

-- its steps in phase q
abbrev pub in_phase : ℕ → ℕ → List Step → List Step
in_phase exit q [] = []
in_phase exit q (s ∷ past) = if phase exit past == q then s ∷ in_phase exit q past else in_phase exit q past

-- ---- bytes

-- the byte that an access writes at b
abbrev pub written : Access → ℕ → Option ℕ
written (Write addr width value) b = if within addr width b then Some (byte_of value (b - addr)) else None
written Quiet b = None
written (Read addr width value) b = None

-- the byte that an access reads at b
abbrev pub got : Access → ℕ → Option ℕ
got (Read addr width value) b = if within addr width b then Some (byte_of value (b - addr)) else None
got Quiet b = None
got (Write addr width value) b = None

-- the byte of the last write of b
abbrev pub last_write : ℕ → List Step → Option ℕ
last_write b [] = None
last_write b (s ∷ past) = or_else (written (access_of s) b) (last_write b past)

-- A read holds what is owed at each of its bytes; where nothing is owed, anything.
abbrev pub Reads : (ℕ → Option ℕ) → Access → Type 0
Reads owed (Read addr width value) = (i : ℕ) → i < width → IfSome (owed (addr + i)) (λ b. byte_of value i ≡ b)
Reads owed Quiet = Unit {0}
Reads owed (Write addr width value) = Unit {0}

-- P holds of each byte that an access writes.
abbrev pub Writes : (ℕ → Type 0) → Access → Type 0
Writes P (Write addr width value) = (i : ℕ) → i < width → P (addr + i)
Writes P Quiet = Unit {0}
Writes P (Read addr width value) = Unit {0}

-- the value that an access read, 0 where it read nothing
abbrev pub read_value : Access → ℕ
read_value (Read addr width value) = value
read_value Quiet = 0
read_value (Write addr width value) = 0

-- a width that accesses have, in bytes, and a value that fits it (RV64I 2.1)
abbrev pub IsFitting : ℕ → ℕ → Type 0
IsFitting width value = ((width ≡ 1) ⊎ ((width ≡ 2) ⊎ ((width ≡ 4) ⊎ (width ≡ 8)))) × (value < 256 ^ width)

-- an access has a width, and a value that fits it
abbrev pub HasShape : Access → Type 0
HasShape Quiet = Unit {0}
HasShape (Read addr width value) = IsFitting width value
HasShape (Write addr width value) = IsFitting width value
