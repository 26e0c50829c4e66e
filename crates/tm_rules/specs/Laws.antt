-- The rules of a slot refuse nothing else than what their definitions say in the words of placement (this project's
-- own).
use Rattle.std.specs.Prelude.{ℕ, ◌<◌, ◌≤◌, ◌≡◌, IsTrue, List, None}
use Rattle.tm_base.specs.declared.limits.TheConstants.{MOST_SLOTS}
use Rattle.tm_topo.specs.declared.system.Topology.{Topology}
use Rattle.tm_tmpl_types.specs.declared.template.Selector.{Selector}
use Rattle.tm_place.specs.declared.placement.Placement.{Placement}
use Rattle.tm_place.specs.Placed.{sharing_of}
use Rattle.tm_rules_slot.specs.Teams.{harts_of, in_team}
use Rattle.tm_rules_slot.specs.Slots.{emit_fault, mix_fault}
use Rattle.tm_rules_slot.specs.Laws.{IsRuledLine, AreRuledWeights}

-- a body is for some hart
abbrev pub HasHart : Topology → Selector → Type 0
HasHart topo whom = (h : ℕ) × (h < harts_of topo) × IsTrue (in_team topo whom h)

-- a line that spells an instruction which each hart of a body, and there is one, may run in its slot has no fault
abbrev pub LinesPass : Placement → Type 0
LinesPass p = (topo : Topology) (whom : Selector) (n len : ℕ) (text : List ℕ) → p.harts ≡ harts_of topo
    → len ≤ MOST_SLOTS → HasHart topo whom
    → IsRuledLine (sharing_of p) topo whom len n text → emit_fault p.line p.part p.shape topo whom n len text ≡ None

-- weights of which a class can be drawn have no fault
abbrev pub WeightsPass : Placement → Type 0
WeightsPass p = (alu load store branch : ℕ) → AreRuledWeights p.shape alu load store branch
    → mix_fault p.shape alu load store branch ≡ None
