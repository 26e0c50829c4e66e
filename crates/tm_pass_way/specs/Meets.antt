-- All that a hart whose parts do what is stated keeps on half runs (this project's own).
use Rattle.std.specs.Prelude.{◌≡◌, ◌≢◌, false, ℕ, ◌-◌, ◌<◌, ◌≤◌, List}
use Rattle.tm_table.specs.declared.state.Access.TheVariants.{Write}
use Rattle.tm_table.specs.State.{Hart}
use Rattle.tm_plan_cases.specs.declared.program.Program.{Program}
use Rattle.tm_plan_map.specs.Map.{text_base, verdict_at}
use Rattle.tm_plan_cases.specs.Shaped.{MasksFit}
use Rattle.tm_world.specs.Place.{inside, harts, case_count, passes, exit_of, halt_of}
use Rattle.tm_world.specs.Run.{Step, Always, access_of, phase}
use Rattle.tm_world.specs.Course.{OnHalf, HartCourse}
use Rattle.tm_world.specs.Verdict.{WritesExactly}
use Rattle.tm_world.specs.Writers.{run_phase}
use Rattle.tm_world.specs.Work.{GoesOn}
use Rattle.tm_legal.specs.Tame.{Formed}
use Rattle.tm_stays.specs.First.{SetsDwords, EntersBehindExit}
use Rattle.tm_stays.specs.Pace.{phase_work}
use Rattle.tm_pass_way.specs.Parts.{Places, Costs, Turns, Rooms}

-- A verdict is written behind the run phase of the case's last pass.
abbrev pub WritesLate : Program → ℕ → Hart → List Step → Type 0
WritesLate p h first = Always (λ past s. (c v : ℕ) → c < case_count p → access_of s ≡ Write (verdict_at c h) 8 v
    → run_phase p c (passes p - 1) < phase (exit_of p h) past)

-- All that a hart's program owes on half runs.
pub record KeepsOwed (p : Program) (h : ℕ) (limit : ℕ → ℕ) : Type 0 where
  pub course : HartCourse p h
  pub dwords : OnHalf p h (SetsDwords p h)
  pub behind : OnHalf p h (EntersBehindExit p h)
  pub late : OnHalf p h (WritesLate p h)
  pub exact : OnHalf p h (WritesExactly p h)
  pub work : OnHalf p h (λ first own. (q : ℕ) → phase_work p h first q own ≤ limit q)
  pub next : OnHalf p h (GoesOn p h)

-- Behind the last case the hart is at halt, which lies in none of its streams, and isn't where it begins.
pub record Halts (p : Program) (h : ℕ) (at : Places) : Type 0 where
  pub place : at.head (case_count p) ≡ halt_of p h
  pub outside : (c : ℕ) → c < case_count p → inside p h c (halt_of p h) ≡ false
  pub entry : text_base ≢ halt_of p h

-- A hart whose parts do what is stated, and whose limits have room for them, keeps all of it.
abbrev pub PartsKeep : Program → Type 0
PartsKeep p = Formed p → MasksFit p.cases p.masks → (h : ℕ) → h < harts p
    → (at : Places) (cost : Costs) (limit : ℕ → ℕ) → Halts p h at
    → Rooms p cost limit → Turns p h at cost limit → KeepsOwed p h limit
