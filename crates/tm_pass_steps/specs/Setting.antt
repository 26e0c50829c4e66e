-- What setting the first dwords of a case does on a hart's way (this project's own).
use Rattle.std.specs.Prelude.{◌≡◌, ℕ, ◌+◌, ◌*◌, ◌%◌, ◌<◌, ◌≤◌, List, length, slice_get, slice_index, Some}
use Rattle.tm_plan_cases.specs.declared.cases.Case.{Case}
use Rattle.tm_plan_cases.specs.declared.program.Program.{Program}
use Rattle.tm_plan_map.specs.Map.{tables_base, windows_size}
use Rattle.tm_plan_cases.specs.Collected.{owned}
use Rattle.tm_plan_cases.specs.Shaped.{MasksFit}
use Rattle.tm_world.specs.Place.{harts, exit_of}
use Rattle.tm_world.specs.Marks.{Mark}
use Rattle.tm_runs.specs.Machine.{State}
use Rattle.tm_runs.specs.Runs.{At}
use Rattle.tm_runs.specs.World.{support_at, image_dword}
use Rattle.tm_legal.specs.Tame.{Formed}
use Rattle.tm_blocks_move.specs.Lines.{first_bytes}
use Rattle.tm_runs.specs.Phases.{now_in}
use Rattle.tm_pass_way.specs.Facts.{Told, AreSet}
use Rattle.tm_pass_way.specs.Parts.{Ready, Same, Leads}
use Rattle.tm_pass_way.specs.Calm.{Clear}

-- The image has the first dwords of case c in its tables from this address on.
pub record FirstTable (p : Program) (c from : ℕ) : Type 0 where
  pub even : from % 8 ≡ 0
  pub low : tables_base ≤ from
  pub high : from + windows_size ≤ tables_base + length p.tables
  pub dwords : (case : Case) → slice_get p.cases.cases c ≡ Some case → (k : ℕ) → k < 768
      → image_dword p (from + 8 * k) ≡ slice_index case.first k

-- how many steps of setting are work, where the hart collects so many dwords
abbrev pub set_cost : ℕ → ℕ
set_cost dwords = 69 + 4 * dwords

-- Where the words that set stand from lo on, they set what the hart collects to the case's first dwords, as its way
-- asks for it.
abbrev pub FirstIsSet : Program → Type 0
FirstIsSet p = Formed p → MasksFit p.cases p.masks → (h : ℕ) → h < harts p → (c from lo : ℕ) → FirstTable p c from
    → At (support_at p h) lo (first_bytes p.cases h from)
    → Clear p h lo (lo + 4 * length (first_bytes p.cases h from))
    → (limit : ℕ → ℕ) (q d o : ℕ) (ms : List Mark) (s : State)
    → q % 2 ≡ 0 → o + set_cost (length (owned p.cases h)) ≤ limit q → Ready p h lo q d o ms s → Told p h limit s.log
    → Leads p h limit s (λ t. Ready p h (lo + 4 * length (first_bytes p.cases h from)) q d
    (o + set_cost (length (owned p.cases h))) ms t
    × Same p h s t × AreSet p h c (now_in (exit_of p h) t.log) × Told p h limit t.log)
