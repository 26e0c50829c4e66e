-- What collecting the end state of a pass does on a hart's way (this project's own).
use Rattle.std.specs.Prelude.{◌≡◌, ℕ, ◌+◌, ◌*◌, ◌<◌, ◌≤◌, List, [], length}
use Rattle.tm_plan_cases.specs.declared.program.Program.{Program}
use Rattle.tm_plan_map.specs.Map.{private_at}
use Rattle.tm_plan_cases.specs.Collected.{owned}
use Rattle.tm_plan_cases.specs.Shaped.{MasksFit}
use Rattle.tm_world.specs.Place.{harts, passes, exit_of}
use Rattle.tm_world.specs.Marks.{Mark}
use Rattle.tm_runs.specs.Machine.{State}
use Rattle.tm_runs.specs.Runs.{At}
use Rattle.tm_runs.specs.World.{support_at}
use Rattle.tm_legal.specs.Tame.{Formed}
use Rattle.tm_blocks_move.specs.Lines.{collect_all}
use Rattle.tm_pass_text.specs.Words.{aim}
use Rattle.tm_runs.specs.Phases.{now_in}
use Rattle.tm_pass_way.specs.Facts.{Told}
use Rattle.tm_pass_way.specs.Parts.{Hold, Ready, CollectsTo, Leads}
use Rattle.tm_pass_way.specs.Calm.{Clear}

-- how many steps of collecting are work, where the hart collects so many dwords
abbrev pub collect_cost : ℕ → ℕ
collect_cost dwords = 103 + 4 * dwords

-- Where the words that point x9 to the pass's save area and those that collect stand from lo on, they save the end
-- state of the pass that the counter says, as the hart's way asks for it.
abbrev pub PassIsCollected : Program → Type 0
PassIsCollected p = Formed p → MasksFit p.cases p.masks → (h : ℕ) → h < harts p → (lo : ℕ)
    → At (support_at p h) lo aim → At (support_at p h) (lo + 24) (collect_all p.cases h)
    → Clear p h lo (lo + 24 + 4 * length (collect_all p.cases h))
    → (limit : ℕ → ℕ) (q d k : ℕ) (ms : List Mark) (s : State)
    → k < passes p → collect_cost (length (owned p.cases h)) ≤ limit q → Hold p h lo q d 0 ms s
    → s.mem (private_at h + 264) ≡ k → now_in (exit_of p h) s.log ≡ [] → Told p h limit s.log
    → Leads p h limit s (λ t. Ready p h (lo + 24 + 4 * length (collect_all p.cases h)) q d
    (collect_cost (length (owned p.cases h))) ms t
    × CollectsTo p h k q s t × Told p h limit t.log)
