-- What built programs keep (this project's own).
use Rattle.std.specs.Prelude.{◌≡◌, ℕ, ◌<◌}
use Rattle.tm_plan_cases.specs.declared.program.Program.{Program}
use Rattle.tm_plan_cases.specs.Shaped.{IsProgram, IsTyped}
use Rattle.tm_plan_cases.specs.Tables.{table_bytes}
use Rattle.tm_world.specs.Checked.{AreChecked}
use Rattle.tm_world.specs.Place.{harts}
use Rattle.tm_world.specs.Sound.{Sound}
use Rattle.tm_world.specs.Whole.{Laid}
use Rattle.tm_sound.specs.Parts.{HartParts}
use Rattle.tm_pass_text.specs.Hart.{IsBuilt}

-- A program whose text is built of the blocks and whose tables are those of its cases and masks is laid as the course
-- asks, and each of its harts keeps on half runs its course, its first dwords, its verdicts and a pace within its
-- bound, and doesn't get stuck.
pub record KeepsParts (p : Program) : Type 0 where
  pub laid : Laid p
  pub each : (h : ℕ) → h < harts p → HartParts p h

-- a built program with the format's tables keeps all that
abbrev pub BuiltKeeps : Program → Type 0
BuiltKeeps p = IsProgram p → IsTyped p → IsBuilt p → p.tables ≡ table_bytes p.cases p.masks → KeepsParts p

-- Where its masks are the checked sets, it is sound.
abbrev pub BuiltIsSound : Program → Type 0
BuiltIsSound p = IsProgram p → IsTyped p → IsBuilt p → p.tables ≡ table_bytes p.cases p.masks
    → AreChecked p.cases p.masks → Sound p
