-- How a hart comes through the gates of those before it to its first case (this project's own).
use Rattle.std.specs.Prelude.{◌≡◌, ℕ, suc, ◌+◌, ◌*◌, ◌<◌, ◌≤◌, []}
use Rattle.tm_plan_cases.specs.declared.program.Program.{Program}
use Rattle.tm_plan_map.specs.Map.{text_base, private_at}
use Rattle.tm_plan_cases.specs.Shaped.{MasksFit}
use Rattle.tm_world.specs.Place.{harts}
use Rattle.tm_runs.specs.Machine.{State}
use Rattle.tm_runs.specs.Runs.{At}
use Rattle.tm_runs.specs.World.{support_at}
use Rattle.tm_legal.specs.Tame.{Formed}
use Rattle.tm_blocks_base.specs.Blocks.{constant}
use Rattle.tm_pass_text.specs.Words.{gate}
use Rattle.tm_pass_way.specs.Facts.{Told}
use Rattle.tm_pass_way.specs.Parts.{Opens, Ready, Leads}
use Rattle.tm_pass_way.specs.Calm.{Clear}

-- The gates of the harts up to hart h stand one behind the other's words, and hart h's opening behind its gate.
pub record GateSite (p : Program) (h : ℕ) (base far : ℕ → ℕ) : Type 0 where
  pub first : base 0 ≡ text_base
  pub gates : (g : ℕ) → g ≤ h → At (support_at p h) (base g) (gate g (far g))
  pub next : (g : ℕ) → g < h → base g + 8 + far g ≡ base (suc g)
  pub some : (g : ℕ) → g < h → 4 ≤ far g
  pub opening : At (support_at p h) (base h + 12) (constant 31 (private_at h))

-- how many steps it takes, where n harts have gates
abbrev pub begin_cost : ℕ → ℕ
begin_cost n = 3 * n + 11

-- Through the gates a hart comes to its first case, as its way asks for it.
abbrev pub GatesLead : Program → Type 0
GatesLead p = Formed p → MasksFit p.cases p.masks → (h : ℕ) → h < harts p → (base far : ℕ → ℕ) → GateSite p h base far
    → Clear p h text_base (base h + 56) → (limit : ℕ → ℕ) (s : State) → Opens p h s → begin_cost (harts p) ≤ limit 0
    → Leads p h limit s (λ t. Ready p h (base h + 56) 0 0 (begin_cost (harts p)) [] t × Told p h limit t.log)
