-- What a slot without a fault is (this project's own).
use Rattle.std.specs.Prelude.{ℕ, ◌+◌, ◌<◌, ◌≤◌, ◌≡◌, ◌≢◌, IsTrue, IsFalse, List, slice_get, Option, Some, Ok}
use Rattle.tm_table.specs.declared.instr.Instr.{Instr}
use Rattle.tm_asm_line.specs.Reading.{line_of}
use Rattle.tm_base.specs.declared.limits.TheConstants.{MOST_WEIGHTS}
use Rattle.tm_topo.specs.declared.system.Topology.{Topology}
use Rattle.tm_tmpl_types.specs.declared.template.Selector.{Selector}
use Rattle.tm_plan_map.specs.declared.windows.Window.{Window}
use Rattle.tm_plan_map.specs.Slots.{is_product}
use Rattle.tm_place.specs.Sharing.{Sharing}
use Rattle.tm_place.specs.Ruled.{IsRuledEmit}
use Rattle.tm_rules_slot.specs.Teams.{harts_of, in_team}

-- A line that spells an instruction, no product, which each hart of the body may run in slot n of len.
pub record IsRuledLine (s : Sharing) (topo : Topology) (whom : Selector) (len n : ℕ) (text : List ℕ) : Type 0 where
  pub instr : Instr
  pub read : line_of text ≡ Ok instr
  pub allowed : IsFalse (is_product instr.op)
  pub each : (h : ℕ) → h < harts_of topo → IsTrue (in_team topo whom h) → IsRuledEmit s h len n instr

-- some window stands in a shape
abbrev pub HasWindow : List (Option Window) → Type 0
HasWindow shape = (w : ℕ) × (v : Window) × (slice_get shape w ≡ Some (Some v))

-- Weights of which a class can be drawn.
pub record AreRuledWeights (shape : List (Option Window)) (alu load store branch : ℕ) : Type 0 where
  pub some : 1 ≤ alu + load + store + branch
  pub few : alu + load + store + branch ≤ MOST_WEIGHTS
  pub places : load + store ≢ 0 → HasWindow shape
