-- The table of marks: which steps the lines so far name, by which kind of action, in which passes (this project's own).
use Rattle.std.specs.Prelude.{ℕ, ◌≡◌, ◌+◌, ◌*◌, ◌<◌, ◌==◌, Bool, true, ◌&&◌, List, length, slice_index, Option, Some}
use Rattle.std.specs.Prelude.{None}
use Rattle.std.specs.Prelude.{IfSome, All, if◌then◌else◌}
use Rattle.std.specs.Int.{bit_at}
use Rattle.std.specs.List.{list_any}
use Rattle.tm_base.specs.declared.limits.TheConstants.{HART_ROOM, MOST_PASSES, MOST_SLOTS}
use Rattle.tm_plan_script.specs.declared.faults.FaultLine.{FaultLine}
use Rattle.tm_plan_script.specs.declared.faults.Action.{Action}
use Rattle.tm_plan_script.specs.declared.faults.Action.TheVariants.{Result, Loaded, Stored, Drop, Turn}
use Rattle.tm_plan_script.specs.Accepted.{same_kind}
use Rattle.tm_fault.specs.declared.marks.TheConstants.{KINDS}

-- the number of a kind of action
abbrev pub kind_number : Action → ℕ
kind_number (Result x) = 0
kind_number (Loaded x) = 1
kind_number (Stored x) = 2
kind_number Drop = 3
kind_number Turn = 4

-- where the entry of a line stands: the table has, case by case and hart by hart, an entry for each slot and kind of
-- action
unfoldable pub place_of : FaultLine → ℕ
place_of l = ((l.case * HART_ROOM + l.hart) * MOST_SLOTS + l.slot) * KINDS + kind_number l.action

-- a pass of which an entry has a bit, or all of them
abbrev pub HasBit : Option ℕ → Type 0
HasBit pass = IfSome pass (λ k. k < MOST_PASSES)

-- a line has an entry in a table of this length, and its pass a bit
pub record IsTabled (len : ℕ) (l : FaultLine) : Type 0 where
  pub hart : l.hart < HART_ROOM
  pub slot : l.slot < MOST_SLOTS
  pub pass : HasBit l.pass
  pub place : place_of l < len

-- pass k is the one that is named, or all of them are
abbrev pub in_pass : Option ℕ → ℕ → Bool
in_pass None k = true
in_pass (Some n) k = n == k

-- two lines name the same hart, case and slot, and the same kind of action
abbrev pub names_same : FaultLine → FaultLine → Bool
names_same a b =
    (a.hart == b.hart) && ((a.case == b.case) && ((a.slot == b.slot) && same_kind a.action b.action))

-- some line names the same as another, in pass k
abbrev pub is_named : List FaultLine → FaultLine → ℕ → Bool
is_named lines l k = list_any (λ e. names_same e l && in_pass e.pass k) lines

-- The table after some lines: bit k of an entry is set exactly where one of them names, in pass k, the hart, the case,
-- the slot and the kind of action whose entry this is.
pub record AreMarks (lines : List FaultLine) (marks : List ℕ) : Type 0 where
  pub tabled : All (IsTabled (length marks)) lines
  pub bits : (l : FaultLine) (k : ℕ) → IsTabled (length marks) l → k < MOST_PASSES
      → bit_at (slice_index marks (place_of l)) k ≡ (if is_named lines l k then 1 else 0)
