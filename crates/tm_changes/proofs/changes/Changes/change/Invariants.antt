use Rattle.std.proofs.Common.{◌≡◌, ◌≤◌, ℕ, suc, Some, drop, length}
use Rattle.std.specs.Prelude.{slice_get}
use Rattle.tm_plan_script.specs.declared.faults.FaultLine.{FaultLine}
use Rattle.tm_world.specs.Script.{change_of}
use Rattle.tm_changes.specs.Made.{change_in}
use Rattle.tm_changes.specs.Scripted.{IsAt, place_of}
use Rattle.tm_changes.proofs.changes.Changes.change.Given as goal

abbrev pub invariant-loop-left : goal.invariant-loop-left
invariant-loop-left l = record {
  few : l.left ≤ length l.lines;
  at : (k : ℕ) (line : FaultLine) → l.left ≡ suc k → slice_get l.lines k ≡ Some line
      → IsAt l.self.program line (place_of l.pc);
  behind : change_in l.change ≡ change_of l.self.program (drop l.left l.lines) l.h l.phase l.pc;
}

abbrev pub decreases-loop-left : goal.decreases-loop-left
decreases-loop-left l = l.left
