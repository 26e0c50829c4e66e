-- What the words behind a pass do on a hart's way: they count it, and lead to the next pass or on (this project's own).
use Rattle.std.specs.Prelude.{◌≡◌, ◌≢◌, ◌⊎◌, ℕ, suc, ◌+◌, ◌<◌, ◌≤◌, ◌==◌, List, if◌then◌else◌}
use Rattle.tm_plan_cases.specs.declared.program.Program.{Program}
use Rattle.tm_plan_map.specs.Map.{private_at}
use Rattle.tm_plan_cases.specs.Shaped.{MasksFit}
use Rattle.tm_world.specs.Place.{harts, case_count, passes, start_of, end_of, exit_of, halt_of}
use Rattle.tm_world.specs.Marks.{Mark}
use Rattle.tm_runs.specs.Machine.{State}
use Rattle.tm_runs.specs.Runs.{At}
use Rattle.tm_runs.specs.World.{support_at}
use Rattle.tm_legal.specs.Tame.{Formed}
use Rattle.tm_pass_text.specs.Words.{turn}
use Rattle.tm_pass_way.specs.Facts.{Told}
use Rattle.tm_pass_way.specs.Parts.{Ready, Counts, Leads}
use Rattle.tm_pass_way.specs.Calm.{Clear}

-- No mark of the hart is at this place.
pub record Plain (p : Program) (h place : ℕ) : Type 0 where
  pub streams : (d : ℕ) → d < case_count p → (place < start_of p h d) ⊎ (end_of p h d < place)
  pub exit : place ≢ exit_of p h
  pub halt : place ≢ halt_of p h

-- Words that count a pass stand from lo on, and lead back by so many bytes to where a pass begins, or to the word
-- behind them.
pub record TurnSite (p : Program) (h lo set back : ℕ) : Type 0 where
  pub code : At (support_at p h) lo (turn (passes p) back)
  pub some : 1 ≤ back
  pub reach : set + back ≡ lo + 20
  pub clear : Clear p h lo (lo + 20)
  pub first : Plain p h set
  pub behind : Plain p h (lo + 24)

-- The counter goes up by one, and the hart goes back for the next pass, or on behind the last.
abbrev pub PassTurns : Program → Type 0
PassTurns p = Formed p → MasksFit p.cases p.masks → (h : ℕ) → h < harts p → (lo set back : ℕ) → TurnSite p h lo set back
    → (limit : ℕ → ℕ) (q c k o : ℕ) (ms : List Mark) (s : State) → c ≤ case_count p → k < passes p → o + 6 ≤ limit q
    → Ready p h lo q c o ms s → s.mem (private_at h + 264) ≡ k → Told p h limit s.log
    → Leads p h limit s (λ t. Ready p h (if suc k == passes p then lo + 24 else set) q c (o + 6) ms t
    × Counts p h (suc k) s t × Told p h limit t.log)
