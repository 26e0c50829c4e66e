-- That a built text has each part of each hart's program in its place (this project's own).
use Rattle.std.specs.Prelude.{◌≡◌, ℕ, ◌<◌}
use Rattle.tm_plan_cases.specs.declared.program.Program.{Program}
use Rattle.tm_plan_cases.specs.Shaped.{IsProgram, IsTyped}
use Rattle.tm_plan_cases.specs.Tables.{table_bytes}
use Rattle.tm_world.specs.Place.{harts}
use Rattle.tm_pass_way.specs.Meets.{Halts}
use Rattle.tm_pass_text.specs.Hart.{IsBuilt}
use Rattle.tm_pass_steps.specs.Placed.{HartPlaced}
use Rattle.tm_pass_place.specs.Places.{places_of}

-- A program whose text is built of the blocks and whose tables are those of its cases and masks has all parts of each
-- hart in their places, and the hart's halt mark behind its last case.
abbrev pub HartsArePlaced : Program → Type 0
HartsArePlaced p = IsProgram p → IsTyped p → IsBuilt p → p.tables ≡ table_bytes p.cases p.masks
    → (h : ℕ) → h < harts p → HartPlaced p h (places_of p h) × Halts p h (places_of p h)
