-- What saving the registers does on a hart's way (this project's own).
use Rattle.std.specs.Prelude.{◌≡◌, ℕ, ◌+◌, ◌<◌, ◌≤◌, Bool, true, List, None}
use Rattle.tm_plan_cases.specs.declared.program.Program.{Program}
use Rattle.tm_base.specs.Lists.{any}
use Rattle.tm_plan_cases.specs.Shaped.{MasksFit}
use Rattle.tm_world.specs.Place.{harts, case_count, exit_of}
use Rattle.tm_world.specs.Marks.{Mark}
use Rattle.tm_world.specs.Course.{round_before}
use Rattle.tm_runs.specs.Machine.{State, Entry}
use Rattle.tm_runs.specs.Runs.{At}
use Rattle.tm_runs.specs.World.{support_at}
use Rattle.tm_legal.specs.Tame.{Formed}
use Rattle.tm_blocks_base.specs.Blocks.{save_registers}
use Rattle.tm_runs.specs.Phases.{now_in}
use Rattle.tm_pass_way.specs.Facts.{Told}
use Rattle.tm_pass_way.specs.Parts.{Hold, Saves, Leads}
use Rattle.tm_pass_way.specs.Calm.{Clear}

-- In a run phase the words that save the registers do so as the hart's way asks for it; what some entry of the phase
-- was stays so.
abbrev pub RegistersAreSaved : Program → Type 0
RegistersAreSaved p = Formed p → MasksFit p.cases p.masks → (h : ℕ) → h < harts p → (lo : ℕ)
    → At (support_at p h) lo save_registers
    → Clear p h lo (lo + 120) → (limit : ℕ → ℕ) (q c o : ℕ) (ms : List Mark) (s : State) (test : Entry → Bool)
    → c ≤ case_count p
    → round_before p q ≡ None → o + 30 ≤ limit q → Hold p h lo q c o ms s
    → any test (now_in (exit_of p h) s.log) ≡ true → Told p h limit s.log
    → Leads p h limit s (λ t. Hold p h (lo + 120) q c (o + 30) ms t × Saves p h s t
    × (any test (now_in (exit_of p h) t.log) ≡ true) × Told p h limit t.log)
