-- What a call of the barrier does on a hart's way (this project's own).
use Rattle.std.specs.Prelude.{◌≡◌, ℕ, suc, ◌+◌, ◌*◌, ◌<◌, ◌≤◌, true, ◌==◌, List, [], ◌∷◌, ◌++◌, IfSome}
use Rattle.tm_plan_cases.specs.declared.program.Program.{Program}
use Rattle.tm_base.specs.Lists.{any}
use Rattle.tm_plan_cases.specs.Shaped.{MasksFit}
use Rattle.tm_world.specs.Lists.{IsFront}
use Rattle.tm_world.specs.Place.{harts, case_count, end_of, exit_of}
use Rattle.tm_world.specs.Writers.{case_of_phase}
use Rattle.tm_world.specs.Marks.{Mark, Exit, whole_way}
use Rattle.tm_world.specs.Course.{last_phase}
use Rattle.tm_runs.specs.Machine.{State, Entry}
use Rattle.tm_legal.specs.Tame.{Formed}
use Rattle.tm_runs.specs.Phases.{now_in}
use Rattle.tm_pass_way.specs.Facts.{Told, AreSet}
use Rattle.tm_pass_way.specs.Parts.{Hold, Ready, Same, Leads}
use Rattle.tm_pass_steps.specs.Sites.{BarrierSite, CallSite}

-- how many steps of a call of the barrier are work, where n harts meet
abbrev pub meet_cost : ℕ → ℕ
meet_cost n = 10 + 2 * n

-- Where the barrier and a call of it stand so, the call leads a hart into its next phase, as its way asks for it.
abbrev pub CallMeets : Program → Type 0
CallMeets p = Formed p → MasksFit p.cases p.masks → (h : ℕ) → h < harts p → (entry place link : ℕ)
    → BarrierSite p h entry → CallSite p h entry place link
    → (limit : ℕ → ℕ) (q c o : ℕ) (ms : List Mark) (s : State) → c ≤ case_count p → q < last_phase p
    → o + meet_cost (harts p) ≤ limit q → IsFront (ms ++ Exit ∷ []) (whole_way p) → Ready p h place q c o ms s
    → IfSome (case_of_phase p q) (λ d. any (λ (e : Entry). e.next == end_of p h d) (now_in (exit_of p h) s.log) ≡ true)
    → IfSome (case_of_phase p (suc q)) (λ d. AreSet p h d (now_in (exit_of p h) s.log)) → Told p h limit s.log
    → Leads p h limit s (λ t. Hold p h link (suc q) c 0 (ms ++ Exit ∷ []) t × Same p h s t
    × (now_in (exit_of p h) t.log ≡ []) × Told p h limit t.log)
