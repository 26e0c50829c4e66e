-- The test that a template asks for: for each case and hart the slots that the hart runs, written out. This project's
-- own.
use Rattle.std.specs.Prelude.{ℕ, ◌≡◌, pos, List, [], ◌∷◌, map, find, flat_map, replicate, Option, Some, None, Result}
use Rattle.std.specs.Prelude.{Ok, Err}
use Rattle.tm_table.specs.declared.instr.Op.TheVariants.{Addi}
use Rattle.tm_table.specs.declared.instr.Instr.{Instr}
use Rattle.tm_asm_line.specs.declared.fault.AsmFault.{AsmFault}
use Rattle.tm_asm_line.specs.Reading.{line_of}
use Rattle.tm_base.specs.Lists.{count_from}
use Rattle.tm_plan_map.specs.declared.admitted.Slot.{Slot}
use Rattle.tm_plan_map.specs.declared.admitted.Slot.TheVariants as slot
use Rattle.tm_plan_map.specs.declared.admitted.AdmittedCase.{AdmittedCase}
use Rattle.tm_plan_map.specs.declared.admitted.Admitted.{Admitted}
use Rattle.tm_place.specs.Numbers.{part_size}
use Rattle.tm_tmpl_types.specs.declared.template.SlotText.{SlotText}
use Rattle.tm_tmpl_types.specs.declared.template.SlotText.TheVariants as said
use Rattle.tm_tmpl_types.specs.declared.template.SlotDecl.{SlotDecl}
use Rattle.tm_tmpl_types.specs.declared.template.BodyDecl.{BodyDecl}
use Rattle.tm_tmpl_types.specs.declared.template.CaseDecl.{CaseDecl}
use Rattle.tm_tmpl_types.specs.declared.template.Template.{Template}
use Rattle.tm_topo.specs.declared.system.Topology.{Topology}
use Rattle.tm_rules_slot.specs.Teams.{harts_of, in_team}
use Rattle.tm_rules_first.specs.Windows.{windows_of}
use Rattle.tm_rules_first.specs.Rules.{broken_rule}
use Rattle.tm_refusals.specs.declared.rule.AdmitFault.{AdmitFault}
use Rattle.tm_refusals.specs.declared.rule.AdmitFault.TheVariants.{Rule, NoMemory}

-- `addi x0, x0, 0`, which changes nothing (RV64I 2.1)
unfoldable pub nothing : Instr
nothing = record { op = Addi; rd = 0; rs1 = 0; rs2 = 0; imm = pos 0 }

-- the instruction that was read, where one was (this project)
abbrev pub or_nothing : Result Instr AsmFault → Instr
or_nothing (Ok i) = i
or_nothing (Err e) = nothing

-- the slots of one statement of a body: the instruction that its line spells, or as many drawn ones as a mix says
-- (this project)
unfoldable pub slots_of : SlotText → List Slot
slots_of (said.Emit text) = slot.Emit (or_nothing (line_of text)) ∷ []
slots_of (said.Mix n alu load store branch) = replicate n (slot.Mix alu load store branch)

-- the slots of a body, with each mix written out (this project)
unfoldable pub written_out : List SlotDecl → List Slot
written_out ds = flat_map (λ d. slots_of d.what) ds

-- the slots that a hart with this body runs, or of one without a body (this project)
abbrev pub slots_in : Option BodyDecl → List Slot
slots_in None = slot.Emit nothing ∷ []
slots_in (Some b) = written_out b.slots

-- the slots that hart h runs: those of the first body whose team has it (this project)
unfoldable pub hart_slots : Topology → List BodyDecl → ℕ → List Slot
hart_slots topo bodies h = slots_in (find (λ b. in_team topo b.whom h) bodies)

-- a case, with the slots of each hart in order (this project)
abbrev pub admitted_case : Topology → CaseDecl → AdmittedCase
admitted_case topo c = record { name = c.name; bodies = map (hart_slots topo c.bodies) (count_from 0 (harts_of topo)) }

-- The test that a template asks for on this topology (this project).
unfoldable pub admitted_of : Topology → Template → Admitted
admitted_of topo t = record {
  name = t.name;
  harts = harts_of topo;
  line = topo.line;
  part = part_size topo.line (harts_of topo);
  bias = topo.bias;
  passes = t.passes;
  windows = windows_of t.windows;
  cases = map (admitted_case topo) t.cases;
}

-- a template is refused for the first rule that it breaks; want of memory may come at any time (this project)
abbrev pub IsCause : Topology → Template → AdmitFault → Type 0
IsCause topo t (Rule broken) = broken_rule topo t ≡ Some broken
IsCause topo t NoMemory = Unit {0}
