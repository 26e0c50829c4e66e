-- Worked rows.
use Rattle.std.proofs.Common.{◌≡◌, ℤ, pos, List, [], ◌∷◌, Option, Some, None, refl}
use Rattle.tm_table.specs.declared.instr.Op.TheVariants.{Sd}
use Rattle.tm_table.specs.declared.instr.Instr.{Instr}
use Rattle.tm_topo.specs.declared.system.Topology.{Topology}
use Rattle.tm_tmpl_types.specs.declared.template.Selector.TheVariants.{Hart, Core}
use Rattle.tm_plan_map.specs.declared.windows.Window.{Window}
use Rattle.tm_plan_map.specs.declared.windows.Kind2.TheVariants.{False}
use Rattle.tm_plan_map.specs.Map.{window_at, windows_base}
use Rattle.tm_plan_map.specs.Slots.{slot_addr}
use Rattle.tm_place.specs.Allowed.{may_store_at, may_load_at}
use Rattle.tm_refusals.specs.declared.rule.RuleFault.TheVariants.{NotOwner}
use Rattle.tm_rules_slot.specs.Teams.{in_team, team}
use Rattle.tm_rules_slot.specs.Slots.{first, window_fault, place_fault, may_access, owner_fault, emit_checks}

-- four cores of two threads, and lines of 64 bytes
abbrev eight : Topology
eight = record { cores = 4; threads = 2; line = 64; bias = 40 }

core-team : team eight (Core 1) ≡ 2 ∷ 3 ∷ []
unfolding team in_team
core-team = refl

-- a false window of one line, of which each of eight harts has 8 bytes
abbrev shared : List (Option Window)
shared = Some (record { number = 0; kind = False; lines = 1 }) ∷ None ∷ None ∷ []

abbrev store : ℤ → Instr
store imm = record { op = Sd; rd = 0; rs1 = 28; rs2 = 5; imm = imm }

own-part : first (emit_checks 64 8 shared eight (Hart 1) 0 1 (store (pos 8))) ≡ None
unfolding emit_checks window_fault place_fault owner_fault may_access may_store_at may_load_at slot_addr window_at
    windows_base team in_team
own-part = refl

other-part : first (emit_checks 64 8 shared eight (Hart 1) 0 1 (store (pos 0))) ≡ Some (NotOwner 1 0x80E80000)
unfolding emit_checks window_fault place_fault owner_fault may_access may_store_at may_load_at slot_addr window_at
    windows_base team in_team
other-part = refl
