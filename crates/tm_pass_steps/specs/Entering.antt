-- What loading the first registers does on a hart's way (this project's own).
use Rattle.std.specs.Prelude.{◌≡◌, ℕ, ◌+◌, ◌-◌, ◌*◌, ◌%◌, ◌<◌, ◌≤◌, [], ◌∷◌, ◌++◌, length, slice_index, Some}
use Rattle.tm_plan_cases.specs.declared.cases.Stream.{Stream}
use Rattle.tm_plan_cases.specs.declared.program.Program.{Program}
use Rattle.tm_plan_map.specs.Map.{tables_base, private_at}
use Rattle.tm_plan_cases.specs.Shaped.{MasksFit}
use Rattle.tm_world.specs.Place.{harts, case_count, passes, start_of}
use Rattle.tm_world.specs.Marks.{Exit, Enter}
use Rattle.tm_plan_cases.specs.Streams.{stream_in}
use Rattle.tm_runs.specs.Machine.{State}
use Rattle.tm_runs.specs.Runs.{At}
use Rattle.tm_runs.specs.World.{support_at, image_dword}
use Rattle.tm_legal.specs.Tame.{Formed}
use Rattle.tm_blocks_base.specs.Blocks.{load_registers}
use Rattle.tm_pass_way.specs.Facts.{Told}
use Rattle.tm_pass_way.specs.Parts.{Hold, Same, Leads, phase_at, way_to}
use Rattle.tm_pass_way.specs.Calm.{Clear, StreamClear}

-- The image has hart h's first registers of case c in its tables from this address on, of which x31 is its private
-- area.
pub record RegisterTable (p : Program) (h c table : ℕ) : Type 0 where
  pub even : table % 8 ≡ 0
  pub low : tables_base ≤ table
  pub high : table + 248 ≤ tables_base + length p.tables
  pub dwords : (stream : Stream) → stream_in p.cases c h ≡ Some stream → (i : ℕ) → i < 31
      → image_dword p (table + 8 * i) ≡ slice_index stream.regs (i + 1)
  pub area : image_dword p (table + 240) ≡ private_at h

-- Where the words that load them stand before the stream, they lead into it with its first registers, as the hart's
-- way asks for it.
abbrev pub RegistersAreLoaded : Program → Type 0
RegistersAreLoaded p = Formed p → MasksFit p.cases p.masks → (h : ℕ) → h < harts p → (c k lo table : ℕ)
    → c < case_count p → k < passes p
    → RegisterTable p h c table → At (support_at p h) lo (load_registers table) → lo + 168 ≡ start_of p h c
    → Clear p h lo (start_of p h c - 4) → StreamClear p h c → (limit : ℕ → ℕ) (s : State)
    → 42 ≤ limit (phase_at p c k + 1)
    → Hold p h lo (phase_at p c k + 1) c 0 (way_to p c k ++ Exit ∷ []) s → Told p h limit s.log
    → Leads p h limit s (λ t. Hold p h (start_of p h c) (phase_at p c k + 1) c 42 (way_to p c k ++ Exit ∷ Enter c
    ∷ []) t
    × Same p h s t × Told p h limit t.log)
