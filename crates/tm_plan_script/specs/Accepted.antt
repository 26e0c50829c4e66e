-- Which lines a script may have over a program's cases (this project's own).
use Rattle.std.specs.Prelude.{◌≡◌, ℕ, ◌*◌, ◌^◌, ◌<◌, ◌≤◌, Bool, true, false, ◌&&◌, ◌==◌, List, length, slice_get}
use Rattle.std.specs.Prelude.{Option, Some, None, IsTrue, IsFalse, IfSome, All, AllPairs}
use Rattle.tm_table.specs.declared.instr.Instr.{Instr}
use Rattle.tm_plan_cases.specs.declared.cases.Cases.{Cases}
use Rattle.tm_plan_cases.specs.declared.cases.Stream.{Stream}
use Rattle.tm_plan_cases.specs.Streams.{stream_in}
use Rattle.tm_plan_map.specs.Slots.{instr_of, load_width, store_width, is_branch}
use Rattle.tm_plan_script.specs.declared.faults.FaultLine.{FaultLine}
use Rattle.tm_plan_script.specs.declared.faults.Action.{Action}
use Rattle.tm_plan_script.specs.declared.faults.Action.TheVariants.{Result, Loaded, Stored, Drop, Turn}

-- ---- one line

-- the instruction of a stream's word, if there is one
abbrev pub instr_at : Option ℕ → Option Instr
instr_at None = None
instr_at (Some word) = instr_of word

-- the instruction in slot n of a stream, if there is one
abbrev pub slot_in : Option Stream → ℕ → Option Instr
slot_in None n = None
slot_in (Some stream) n = instr_at (slice_get stream.words n)

-- the instruction in the slot that a line names, if there is one
abbrev pub slot_of : Cases → FaultLine → Option Instr
slot_of cases line = slot_in (stream_in cases line.case line.hart) line.slot

-- The slot is what the action needs, and the action's number isn't 0 and has at most the bits of what it is xored to.
-- A result needs a slot that writes one of x1 to x27, `loaded` a load, `stored` and `drop` a store, and `turn` a
-- branch.
abbrev pub Suits : Instr → Action → Type 0
Suits i (Result x) = (1 ≤ i.rd) × (i.rd ≤ 27) × (1 ≤ x) × (x < 2 ^ 64)
Suits i (Loaded x) = (0 < load_width i.op) × (1 ≤ x) × (x < 2 ^ (8 * load_width i.op))
Suits i (Stored x) = (0 < store_width i.op) × (1 ≤ x) × (x < 2 ^ (8 * store_width i.op))
Suits i Drop = 0 < store_width i.op
Suits i Turn = IsTrue (is_branch i.op)

-- The hart, the case, the pass and the slot that the line names exist, and the action suits the slot.
pub record IsAccepted (cases : Cases) (line : FaultLine) : Type 0 where
  pub hart : line.hart < cases.harts
  pub case : line.case < length cases.cases
  pub pass : IfSome line.pass (λ k. k < cases.passes)
  pub instr : Instr
  pub slot : slot_of cases line ≡ Some instr
  pub suits : Suits instr line.action

-- ---- two lines

-- the same kind of action, whatever its number
abbrev pub same_kind : Action → Action → Bool
same_kind (Result x) (Result y) = true
same_kind (Loaded x) (Loaded y) = true
same_kind (Stored x) (Stored y) = true
same_kind Drop Drop = true
same_kind Turn Turn = true
same_kind _ _ = false

-- they have a pass in common, where None is every pass
abbrev pub meet : Option ℕ → Option ℕ → Bool
meet None other = true
meet (Some k) None = true
meet (Some k) (Some n) = k == n

-- They speak of the same hart, case and slot, by the same kind of action, with a pass in common.
abbrev pub are_twice : FaultLine → FaultLine → Bool
are_twice a b =
    (a.hart == b.hart) && ((a.case == b.case) && ((a.slot == b.slot)
    && (same_kind a.action b.action && meet a.pass b.pass)))

-- ---- scripts

-- The lines of a script that is accepted over these cases: each is accepted, and no two speak of one step by one kind
-- of action.
pub record AreAccepted (cases : Cases) (lines : List FaultLine) : Type 0 where
  pub each : All (IsAccepted cases) lines
  pub once : AllPairs (λ a b. IsFalse (are_twice a b)) lines
