-- The two input texts: the test that they ask for, or their first fault. Source: this project.
use Rattle.std.specs.Prelude.{ℕ, ◌≡◌, List, Option, Some, None, Result, Ok, Err}
use Rattle.tm_topo.specs.declared.system.Topology.{Topology}
use Rattle.tm_topo.specs.declared.system.TopoFault.{TopoFault}
use Rattle.tm_topo.specs.Reading.{topology_of}
use Rattle.tm_tmpl_types.specs.declared.template.Template.{Template}
use Rattle.tm_tmpl_types.specs.declared.template.TmplFault.{TmplFault}
use Rattle.tm_tmpl_read.specs.Grammar.{template_of}
use Rattle.tm_plan_map.specs.declared.admitted.Admitted.{Admitted}
use Rattle.tm_refusals.specs.declared.rule.RuleAt.{RuleAt}
use Rattle.tm_rules_first.specs.Rules.{broken_rule}
use Rattle.tm_rules.specs.Admitting.{admitted_of}
use Rattle.tm_refusals.specs.declared.inputs.InputFault.{InputFault}
use Rattle.tm_refusals.specs.declared.inputs.InputFault.TheVariants.{Topo, Tmpl, Rule}
use Rattle.tm_refusals.specs.declared.inputs.BuildFault.{BuildFault}
use Rattle.tm_refusals.specs.declared.inputs.BuildFault.TheVariants as fault
use Rattle.tm_refusals.specs.Named.{IsNamed}

-- ---- the topology

-- why a reading was refused (this project)
abbrev pub refusal_of : Result Topology TopoFault → Option InputFault
refusal_of (Ok t) = None
refusal_of (Err e) = Some (Topo e)

-- why a topology is refused, before the template is read (this project)
unfoldable pub topology_refusal : List ℕ → Option InputFault
topology_refusal text = refusal_of (topology_of text)

-- ---- both

-- the test of a template, unless it breaks a rule (this project)
abbrev pub unless_broken : Topology → Template → Option RuleAt → Result Admitted InputFault
unless_broken topo t None = Ok (admitted_of topo t)
unless_broken topo t (Some r) = Err (Rule r)

-- what a reading of a template comes to (this project)
abbrev pub of_reading : Topology → Result Template TmplFault → Result Admitted InputFault
of_reading topo (Ok t) = unless_broken topo t (broken_rule topo t)
of_reading topo (Err e) = Err (Tmpl e)

-- The test of a template for a system, or the template's first fault: of its grammar, or of its rules (this project).
unfoldable pub template_inputs : Topology → List ℕ → Result Admitted InputFault
template_inputs topo template = of_reading topo (template_of template)

-- a template is looked at once its topology is accepted (this project)
abbrev pub behind_topology : Result Topology TopoFault → List ℕ → Result Admitted InputFault
behind_topology (Ok topo) template = template_inputs topo template
behind_topology (Err e) template = Err (Topo e)

-- The test that a topology and a template ask for, or their first fault (this project).
unfoldable pub inputs : (topo template : List ℕ) → Result Admitted InputFault
inputs topo template = behind_topology (topology_of topo) template

-- ---- faults

-- why nothing was read or built (this project)
abbrev pub IsFaultOf : {A : Type 0} → BuildFault → Result A InputFault → Type 0
IsFaultOf (fault.Input refused) reading = IsNamed refused × (reading ≡ Err refused)
IsFaultOf fault.NoMemory reading = Unit {0}
