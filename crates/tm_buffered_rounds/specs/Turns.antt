-- Moments of harts that step in turn, round after round (this project's own).
use Rattle.std.specs.Prelude.{◌≡◌, ℕ, suc, ◌%◌, ◌<◌, ◌≤◌, List, [], ◌∷◌}
use Rattle.tm_plan_cases.specs.declared.program.Program.{Program}
use Rattle.tm_world.specs.Place.{harts}
use Rattle.tm_world.specs.Run.{Step, hart_of}
use Rattle.tm_meet.specs.Waits.{IsHalted}
use Rattle.tm_buffered.specs.Moments.{Moment, Makes, Drains, opened_with, run_of}
use Rattle.tm_buffered.specs.Signals.{made, landed}

-- In each eighth round: all signals that hart h has made are in memory.
abbrev pub IsSwept : (t h : ℕ) → List Moment → Type 0
IsSwept t h before = t % 8 ≡ 7 → made h before ≤ landed h before

-- From no moment, where hart 0's turn in round 0 is next, turns lead to others, where hart h's turn in round t is next.
-- Writes drain at any time. Each hart that isn't at halt makes a step; those at halt are left out; and in each eighth
-- round all signals of the hart whose turn it is have landed by then. Behind the last hart's turn the next round
-- begins.
pub data Turns (p : Program) (opening : ℕ → List ℕ) : (t h : ℕ) → List Moment → Type 0 where
  Begins : Turns p opening 0 0 []
  Drain : {t h : ℕ} {before : List Moment} (g w : ℕ) → Turns p opening t h before
      → Turns p opening t h (Drains g w ∷ before)
  Steps : {t : ℕ} {before : List Moment} (s : Step) → Turns p opening t (hart_of s) before → hart_of s < harts p
      → (¬ IsHalted p (run_of (opened_with opening before)) (hart_of s)) → IsSwept t (hart_of s) before
      → Turns p opening t (suc (hart_of s)) (Makes s ∷ before)
  Skips : {t h : ℕ} {before : List Moment} → Turns p opening t h before → h < harts p
      → IsHalted p (run_of (opened_with opening before)) h → IsSwept t h before → Turns p opening t (suc h) before
  Wraps : {t : ℕ} {before : List Moment} → Turns p opening t (harts p) before → Turns p opening (suc t) 0 before
