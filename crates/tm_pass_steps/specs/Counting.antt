-- What the words of the pass counter do on a hart's way (this project's own).
use Rattle.std.specs.Prelude.{ℕ, ◌+◌, ◌<◌, ◌≤◌, List, [], ◌∷◌}
use Rattle.tm_plan_cases.specs.declared.program.Program.{Program}
use Rattle.tm_plan_cases.specs.Shaped.{MasksFit}
use Rattle.tm_world.specs.Place.{harts, case_count}
use Rattle.tm_world.specs.Marks.{Mark}
use Rattle.tm_runs.specs.Machine.{State}
use Rattle.tm_runs.specs.Runs.{At}
use Rattle.tm_runs.specs.World.{support_at}
use Rattle.tm_legal.specs.Tame.{Formed}
use Rattle.tm_pass_text.specs.Words.{reset}
use Rattle.tm_pass_way.specs.Facts.{Told}
use Rattle.tm_pass_way.specs.Parts.{Ready, Counts, Leads}
use Rattle.tm_pass_way.specs.Calm.{Clear}

-- The word that sets the pass counter to 0 does so as the hart's way asks for it.
abbrev pub CounterIsReset : Program → Type 0
CounterIsReset p = Formed p → MasksFit p.cases p.masks → (h : ℕ) → h < harts p → (lo : ℕ)
    → At (support_at p h) lo (reset ∷ [])
    → Clear p h lo (lo + 4) → (limit : ℕ → ℕ) (q c o : ℕ) (ms : List Mark) (s : State) → c ≤ case_count p
    → o + 1 ≤ limit q
    → Ready p h lo q c o ms s → Told p h limit s.log
    → Leads p h limit s (λ t. Ready p h (lo + 4) q c (o + 1) ms t × Counts p h 0 s t × Told p h limit t.log)
